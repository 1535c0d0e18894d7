-- Eight bytes are those of the number that they are read as.
use Rattle.std.proofs.Common.{◌≡◌, ℕ, ℤ, ◌<◌, ◌^◌, List, length, get_or, FitsSigned, sym, ap, ◌∙◌}
use Rattle.std.specs.Int.{w64, to_be_bytes, from_be_bytes, cast_signed, cast_unsigned}
use Rattle.std.proofs.lemmas.Int.{of_z-to_z}
use Rattle.std.proofs.lemmas.Nat.{be_bytes_8}
use Rattle.lwm2m_values.specs.Value.{IsIntegerOf}

pub eight_bytes : (bytes : List ℕ) (n : ℕ) (z : ℤ) → length bytes ≡ 8 → ((i : ℕ) → get_or bytes i 0 < 256) → n < 2 ^ 64
    → n ≡ from_be_bytes w64 bytes → z ≡ cast_signed w64 n → FitsSigned w64 z → IsIntegerOf w64 z bytes
eight_bytes bytes n z size small fits n_is z_is z_fits =
    let same : cast_unsigned w64 z ≡ n = ap (cast_unsigned w64) z_is ∙ of_z-to_z w64 n fits in
    (z_fits, sym (ap (to_be_bytes w64) same ∙ be_bytes_8 bytes n size small n_is))
