-- A number in digits is never too long for a payload.
use Rattle.std.proofs.Common.{◌≡◌, ◌≤◌, ℤ, false, nat_lt, length, arith}
use Rattle.std.specs.Fmt.{signed_decimal}
use Rattle.std.specs.Int.{w64}
use Rattle.std.specs.Prelude.{FitsSigned}
use Rattle.std.proofs.lemmas.Bool.Decides.{nat_tests}
use Rattle.std.proofs.lemmas.Fmt.{length_signed_le}

pub digits_fit : (z : ℤ) → FitsSigned w64 z → nat_lt 1024 (length (signed_decimal z)) ≡ false
digits_fit z h =
    let few : length (signed_decimal z) ≤ 20 = length_signed_le 19 z (omega arith) (omega arith) in
    grind (arith, nat_tests)
