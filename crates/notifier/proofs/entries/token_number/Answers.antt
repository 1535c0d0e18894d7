use Rattle.std.proofs.Common.{◌∙◌, ap, arith}
use Rattle.std.proofs.lemmas.Int.Digits.{number_more}
use Rattle.std.proofs.lemmas.List.{take_all}
use Rattle.notifier.specs.Inside.{token_number}
use Rattle.notifier.proofs.Tokens.{number_so_far}
use Rattle.notifier.proofs.entries.token_number.Goals as goal

pub overflow_mul-number : goal.overflow_mul-number
overflow_mul-number c =
    omega (
      arith,
      c.loop-byte.invariant,
      number_so_far c.args.token.now c.loop-byte.byte-index (λ k. omega (arith, c.type_inv.token k)) (omega arith),
    )

pub overflow_add-number : goal.overflow_add-number
overflow_add-number c =
    omega (
      arith,
      c.loop-byte.invariant,
      number_so_far c.args.token.now c.loop-byte.byte-index (λ k. omega (arith, c.type_inv.token k)) (omega arith),
    )

pub loop-byte-preserved : goal.loop-byte-preserved
loop-byte-preserved c =
    omega (
      arith,
      c.loop-byte.invariant,
      number_more 256 c.args.token.now c.loop-byte.byte-index c.loop-byte-test.true,
      c.from.ensures,
    )

pub returns : goal.returns
returns c =
    c.loop-byte.invariant
    ∙ ap token_number (take_all c.loop-byte.byte-index c.args.token.now c.loop-byte-test.false)
