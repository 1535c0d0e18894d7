-- A number in digits is a text that is not empty.
use Rattle.std.proofs.Common.{◌≡◌, ◌≢◌, ℕ, List, [], length, ℤ, pos, negsuc, FitsSigned, w64}
use Rattle.std.proofs.Common.{ap, arith}
use Rattle.std.proofs.lemmas.Fmt.{decimal_nonempty}
use Rattle.std.specs.Fmt.{signed_decimal}

-- a number has a digit
pub has_digit : (text : List ℕ) (z : ℤ) → FitsSigned w64 z → text ≡ signed_decimal z → text ≢ []
has_digit text (pos n) fits is none =
    omega (arith, decimal_nonempty n (omega (arith, fits.sfits)), ap length is, ap length none)
has_digit text (negsuc n) fits is none = omega (arith, ap length is, ap length none)
