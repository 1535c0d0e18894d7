use Rattle.std.proofs.Common.{◌≡◌, ◌<◌, length, sym, ◌∙◌, arith, subst}
use Rattle.std.specs.Result.{IfOk}
use Rattle.std.specs.String.{string_bytes}
use Rattle.std.proofs.lemmas.Bool.{eqb-false}
use Rattle.scenario_words.proofs.Written.{some_upper}
use Rattle.scenario_words.proofs.hex_words.hex_word.Goals as goal

pub returns : goal.returns
returns c =
    let bytes = c.args.bytes.now in
    let some : 0 < length bytes = omega (arith, eqb-false _ _ (sym c.is_empty.ensures ∙ c.if-is_empty.false)) in
    subst (λ v. IfOk c.encode_upper.result (λ s. string_bytes s ≡ v))
    (some_upper bytes some (λ i. omega (arith, c.type_inv.bytes i))) c.encode_upper.ensures
