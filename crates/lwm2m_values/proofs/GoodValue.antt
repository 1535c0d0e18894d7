-- The test of a value's limits tells a valid value.
use Rattle.std.proofs.Common.{◌≡◌, ℕ, zero, suc, List, [], ◌∷◌, length, ℤ, pos, negsuc, true, FitsSigned, Option, Some}
use Rattle.std.proofs.Common.{None, refl, sym, ap, ◌∙◌, arith, ltb-true, leb-true, lt-ltb, le-leb, w64}
use Rattle.std.proofs.lemmas.Str.{IsUtf8-from_is_utf8, is_utf8-from_IsUtf8}
use Rattle.base64.specs.GeneralPurpose.{IsBytes}
use Rattle.std.proofs.lemmas.Bool.{and_parts, and_from}
use Rattle.lwm2m_values.specs.declared.value.Value.{Value}
use Rattle.lwm2m_values.specs.declared.value.Value.TheVariants.{Text, Whole, Flag, Opaque, Moment, Link}
use Rattle.lwm2m_values.specs.Value.{IsGood, is_within}
use Rattle.lwm2m_values.specs.Reading.{are_bytes, is_good, if_good}
use Rattle.lwm2m_values.proofs.Choices.{chosen}

pub bytes_from : (b : List ℕ) → are_bytes b ≡ true → IsBytes b
bytes_from [] e i = omega arith
bytes_from (x ∷ b) e zero = let h = and_parts _ _ e in ltb-true x 256 h.0
bytes_from (x ∷ b) e (suc i) = let h = and_parts _ _ e in bytes_from b h.1 i

pub bytes_to : (b : List ℕ) → IsBytes b → are_bytes b ≡ true
bytes_to [] h = refl
bytes_to (x ∷ b) h = and_from _ _ (lt-ltb x 256 (h 0)) (bytes_to b (λ i. h (suc i)))

fits_from : (z : ℤ) → is_within 9223372036854775808 z ≡ true → FitsSigned w64 z
fits_from (pos n) e = record { sfits = omega (arith, ltb-true, e) }
fits_from (negsuc n) e = record { sfits = omega (arith, ltb-true, e) }

fits_to : (z : ℤ) → FitsSigned w64 z → is_within 9223372036854775808 z ≡ true
fits_to (pos n) fits = lt-ltb n 9223372036854775808 (omega (arith, fits.sfits))
fits_to (negsuc n) fits = lt-ltb n 9223372036854775808 (omega (arith, fits.sfits))

pub good_from : (v : Value) → is_good v ≡ true → IsGood v
good_from (Text t) e = let h = and_parts _ _ e in (IsUtf8-from_is_utf8 t h.0, leb-true (length t) 255 h.1)
good_from (Whole z) e = fits_from z e
good_from (Flag b) e = tt
good_from (Opaque b) e = let h = and_parts _ _ e in (bytes_from b h.0, leb-true (length b) 1024 h.1)
good_from (Moment z) e = fits_from z e
good_from (Link o i) e = let h = and_parts _ _ e in (ltb-true o 65536 h.0, ltb-true i 65536 h.1)

pub good_to : (v : Value) → IsGood v → is_good v ≡ true
good_to (Text t) g = and_from _ _ (is_utf8-from_IsUtf8 t g.0) (le-leb (length t) 255 g.1)
good_to (Whole z) g = fits_to z g
good_to (Flag b) g = refl
good_to (Opaque b) g = and_from _ _ (bytes_to b g.0) (le-leb (length b) 1024 g.1)
good_to (Moment z) g = fits_to z g
good_to (Link o i) g = and_from _ _ (lt-ltb o 65536 g.0) (lt-ltb i 65536 g.1)

pub good_kept : (o : Option Value) (v : Value) → if_good o ≡ Some v → (o ≡ Some v) × IsGood v
good_kept None v e = cc e
good_kept (Some w) v e =
    let h = chosen (is_good w) w v e in
    (ap Some h.1, good_from v (ap is_good (sym h.1) ∙ h.0))

pub good_back : (o : Option Value) (v : Value) → o ≡ Some v → IsGood v → if_good o ≡ Some v
good_back o v e g = ap if_good e ∙ rw (good_to v g) refl
