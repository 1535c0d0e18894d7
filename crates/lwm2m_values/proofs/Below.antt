-- The number below a limit that a text writes, as a test of the text and the value of its digits.
use Rattle.std.proofs.Common.{◌≡◌, ℕ, ◌<◌, ◌≤◌, Bool, true, false, cond, ◌&&◌, List, Option, None, Some, IfSome, nat_lt}
use Rattle.std.proofs.Common.{refl, sym, ap, ◌∙◌, arith, inl, inr}
use Rattle.std.specs.Str.Parse.{IsNumeral, digits_value}
use Rattle.std.proofs.lemmas.Bool.{cases_lt, lt-ltb, le-ltb}
use Rattle.lwm2m_values.specs.Value.{IsDecimal}

too_large : (limit : ℕ) (s : List ℕ) (r : Option ℕ) → IfSome r (λ n. (n < limit) × IsDecimal n s)
    → limit ≤ digits_value 10 s → r ≡ None
too_large limit s None found above = refl
too_large limit s (Some n) found above = absurd (omega (arith, above, found.0, found.1.1))

pub as_tested : (limit : ℕ) (s : List ℕ) (is_read : Bool) (r : Option ℕ) → (is_read ≡ true → IsNumeral 10 s)
    → (IsNumeral 10 s → is_read ≡ true) → IfSome r (λ n. (n < limit) × IsDecimal n s)
    → ((n : ℕ) → n < limit → IsDecimal n s → r ≡ Some n)
    → r ≡ cond (is_read && nat_lt (digits_value 10 s) limit) (Some (digits_value 10 s)) None
as_tested limit s true r to from found only =
    let value = digits_value 10 s in
    elim (cases_lt value limit) [
      | inl below ↦ only value below (to refl, refl)
          ∙ sym (ap (λ b. cond b (Some value) None) (lt-ltb value limit below))
      | inr above ↦ too_large limit s r found above
          ∙ sym (ap (λ b. cond b (Some value) None) (le-ltb value limit above))
    ]
as_tested limit s false None to from found only = refl
as_tested limit s false (Some n) to from found only = let read = from found.1.0 in absurd (cc)
