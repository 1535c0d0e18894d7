use Rattle.std.proofs.Common.{◌≡◌, ℕ, ℤ, ◌<◌, FitsSigned, length, get_or, subst, sym, rules}
use Rattle.std.specs.Int.{w64}
use Rattle.std.proofs.lemmas.Int.{to_z-of_z}
use Rattle.lwm2m_values.specs.Value.{IsIntegerOf}
use Rattle.lwm2m_values.proofs.Integers.{eight_bytes}
use Rattle.lwm2m_values.proofs.integer.number_of_8.Goals as goal

pub returns-clause-found : goal.returns-clause-found
returns-clause-found c =
    let z : ℤ = c.cast_signed.result in
    let bytes = c.args.bytes in
    let fits : FitsSigned w64 z = search rules in
    let size : length bytes ≡ 8 = search rules in
    let small : (i : ℕ) → get_or bytes i 0 < 256 = search rules in
    let made = eight_bytes bytes c.from_be_bytes-number.result z size small c.from_be_bytes-number.type_inv
    c.from_be_bytes-number.ensures c.cast_signed.ensures fits in
    subst (λ (x : ℤ). IsIntegerOf w64 x bytes) (sym (to_z-of_z w64 z fits)) made
