use Rattle.std.proofs.Common.{arith, get_or, ◌∙◌}
use Rattle.std.specs.Int.{IsInRange}
use Rattle.std.proofs.lemmas.Bool.{and_from}
use Rattle.std.proofs.lemmas.List.Folds.{list_all_more}
use Rattle.std.proofs.lemmas.Int.Digits.{digits_value_more}
use Rattle.std.specs.Char.{is_ascii_digit}
use Rattle.object_defs.proofs.Digits.{digit_value-digit}
use Rattle.scenario_words.proofs.Short.{short_number, digit_in_range}
use Rattle.scenario_words.proofs.number.digits_number.Goals as goal

pub overflow_mul-number : goal.overflow_mul-number
overflow_mul-number c =
    omega (
      arith,
      c.loop-byte.invariant.number,
      short_number c.args.bytes.now c.loop-byte.byte-index c.loop-byte.invariant.digits c.requires,
    )

pub overflow_add-number : goal.overflow_add-number
overflow_add-number c =
    omega (
      arith,
      c.loop-byte.invariant.number,
      short_number c.args.bytes.now c.loop-byte.byte-index c.loop-byte.invariant.digits c.requires,
    )

pub loop-byte-preserved : goal.loop-byte-preserved
loop-byte-preserved c =
    let digit : IsInRange 48 57 (get_or c.args.bytes.now c.loop-byte.byte-index 0) =
    c.if-not-is_ascii_digit.ensures.cases in
    record {
      digits =
          list_all_more is_ascii_digit c.args.bytes.now c.loop-byte.byte-index 0 c.loop-byte-test.true
          ∙ and_from _ _ c.loop-byte.invariant.digits (digit_in_range _ digit);
      number = omega (
        arith,
        c.loop-byte.invariant.number,
        digits_value_more 10 c.args.bytes.now c.loop-byte.byte-index c.loop-byte-test.true,
        digit_value-digit _ digit,
        c.from.ensures,
      );
    }
