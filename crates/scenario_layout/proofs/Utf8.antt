-- Bytes that are no UTF-8 fail the test.
use Rattle.std.proofs.Common.{◌≡◌, ℕ, Bool, true, false, List, refl}
use Rattle.std.specs.Str.{IsUtf8, is_utf8}
use Rattle.std.proofs.lemmas.Str.{IsUtf8-from_is_utf8}

pub not_utf8 : (bytes : List ℕ) → (IsUtf8 bytes → ⊥) → is_utf8 bytes ≡ false
not_utf8 bytes other = told (is_utf8 bytes) refl
  where
    told : (b : Bool) → is_utf8 bytes ≡ b → b ≡ false
    told true e = absurd (other (IsUtf8-from_is_utf8 bytes e))
    told false e = refl
