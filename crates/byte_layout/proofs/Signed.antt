-- Signed numbers are exact.
use Rattle.std.proofs.Common.{◌≡◌, ℤ, ◌^◌, ◌<◌, Fits, refl, sym, subst, arith}
use Rattle.std.specs.Int.{Width, w64, byte_len, cast_signed, cast_unsigned}
use mir.Val.{bits}
use Rattle.std.specs.Prelude.{FitsSigned}
use Rattle.std.proofs.lemmas.Int.{of_z-to_z, to_z-of_z}
use Rattle.std.proofs.Math.Facts.{Fits-of_z, Fits-of_lt, sfits_to_z}
use Rattle.byte_layout.specs.Layout.{signed_number, number}
use Rattle.byte_layout.specs.Exact.{IsExact}
use Rattle.byte_layout.proofs.Fields.{IsWide, number_exact, number_good, number_below, wide64}
use Rattle.byte_layout.proofs.Layouts.{last_exact}

signed_exact : (w : Width) → IsWide w → 256 ^ byte_len w ≡ 2 ^ bits w → IsExact (signed_number w)
signed_exact w wide whole =
    last_exact (cast_unsigned w) (cast_signed w) (number w) (number_exact w wide)
    (λ n good. of_z-to_z w n (subst (λ k. n < k) whole (number_below w n good)))

pub signed64_exact : IsExact (signed_number w64)
signed64_exact = signed_exact w64 wide64 refl

-- a number of 64 bits with a sign is good
pub signed64_good : (z : ℤ) → FitsSigned w64 z → (signed_number w64).Good z
signed64_good z fits =
    let same : cast_signed w64 (cast_unsigned w64 z) ≡ z = to_z-of_z w64 z fits in
    let below : cast_unsigned w64 z < 2 ^ 64 = omega (arith, Fits-of_z {w = w64} {z = z} fits) in
    (number_good w64 (cast_unsigned w64 z) below, sym same)

pub signed64_fits : (z : ℤ) → (signed_number w64).Good z → FitsSigned w64 z
signed64_fits z good = let below : Fits w64 (cast_unsigned w64 z) =
    Fits-of_lt (number_below w64 (cast_unsigned w64 z) good.0) in subst (FitsSigned w64) (sym good.1) (sfits_to_z below)
