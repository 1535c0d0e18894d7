-- Texts of decimal digits.
use Rattle.std.proofs.Common.{◌≡◌, ℕ, ◌<◌, ◌≤◌, ◌^◌, Bool, true, false, cond, ◌&&◌, List, Option, None, Some, length}
use Rattle.std.proofs.Common.{nat_lt, nat_le, position, IfSome, refl, sym, ap, ◌∙◌, arith, lt-ltb, ltb-true}
use Rattle.std.specs.Int.{IsInRange}
use Rattle.std.specs.List.{list_all}
use Rattle.std.specs.Str.Parse.{IsNumeral, digits_value}
use Rattle.std.proofs.lemmas.Bool.Decides.{nat_tests}
use Rattle.std.proofs.lemmas.List.Quantifiers.{position-Some}
use Rattle.std.proofs.lemmas.Str.Parse.{IsNumeralModel, digits_value_short, numerals_by_value}
use Rattle.std.proofs.Math.Bool.{and-false}
use Rattle.std.proofs.lemmas.Bool.{and_parts, le-leb}
use Rattle.lemmas.proofs.Numbers.{nat_le_above}
use Rattle.lwm2m_values.specs.Value.{IsDecimal}
use Rattle.lwm2m_values.proofs.Below.{as_tested}
use Rattle.object_defs.proofs.Digits.{AreDigits, own as by_index}
use Rattle.notifier.specs.Query.{is_digit, are_digits, digits_of, seconds_of}

pub digit : (c : ℕ) → IsInRange 48 57 c → is_digit c ≡ true
digit c h = grind (arith, nat_tests)

pub stray : (c : ℕ) → (IsInRange 48 57 c → ⊥) → is_digit c ≡ false
stray c h = grind (arith, nat_tests)

in_range : (c : ℕ) → is_digit c ≡ true → IsInRange 48 57 c
in_range c h = grind (arith, nat_tests)

own : IsNumeralModel (λ s. list_all is_digit s ≡ true) (digits_value 10)
own =
    numerals_by_value _ (record {
      empty = refl;
      parts = λ c cs h. let tests = and_parts (is_digit c) (list_all is_digit cs) h in (in_range c tests.0, tests.1);
      more = λ c cs is all. (λ i. digit c is i && all i);
    })

numeral : (s : List ℕ) → are_digits s ≡ true → IsNumeral 10 s
numeral s h =
    let tests = and_parts (nat_lt 0 (length s)) (list_all is_digit s) h in
    (ltb-true 0 (length s) tests.0, own.to s tests.1)

is_numeral : (s : List ℕ) → IsNumeral 10 s → are_digits s ≡ true
is_numeral s h = (λ i. lt-ltb 0 (length s) h.0 i && own.from s h.1 i)

pub digits_of-all : (most : ℕ) (s : List ℕ) → AreDigits s → 0 < length s → length s ≤ most
    → digits_of most s ≡ Some (digits_value 10 s)
digits_of-all most s h some short =
    (λ i. cond (is_numeral s (some, by_index.to s h) i && le-leb (length s) most short i)
    (Some (digits_value 10 s)) None)

-- ---- what is read

pub seconds_read : (s : List ℕ) (r : Option ℕ) → IfSome r (λ n. (n < 2147483648) × IsDecimal n s)
    → ((n : ℕ) → n < 2147483648 → IsDecimal n s → r ≡ Some n) → r ≡ seconds_of s
seconds_read s r = as_tested 2147483648 s (are_digits s) r (numeral s) (is_numeral s)

few : (most : ℕ) (s : List ℕ) → length s ≤ most → most ≤ 15 → (is_read : Bool) → are_digits s ≡ is_read
    → cond (is_read && nat_lt (digits_value 10 s) (10 ^ 15)) (Some (digits_value 10 s)) None
    ≡ cond (is_read && nat_le (length s) most) (Some (digits_value 10 s)) None
few most s short fits true h =
    let small = digits_value_short own s 15 (and_parts (nat_lt 0 (length s)) (list_all is_digit s) h).1 (omega arith) in
    ap (λ b. cond b (Some (digits_value 10 s)) None)
    (lt-ltb (digits_value 10 s) (10 ^ 15) small ∙ sym (le-leb (length s) most short))
few most s short fits false h = refl

pub digits_read : (most : ℕ) (s : List ℕ) (r : Option ℕ) → length s ≤ most → most ≤ 15
    → IfSome r (λ n. (n < 10 ^ 15) × IsDecimal n s) → ((n : ℕ) → n < 10 ^ 15 → IsDecimal n s → r ≡ Some n)
    → r ≡ digits_of most s
digits_read most s r short fits found only =
    as_tested (10 ^ 15) s (are_digits s) r (numeral s) (is_numeral s) found only
    ∙ few most s short fits (are_digits s) refl

pub digits_of-long : (most : ℕ) (s : List ℕ) → most < length s → None ≡ digits_of most s
digits_of-long most s h =
    sym (ap (λ b. cond b (Some (digits_value 10 s)) None)
    (ap (λ b. are_digits s && b) (nat_le_above (length s) most h) ∙ and-false (are_digits s)))

-- ---- a place

within : (p : ℕ → Bool) (s : List ℕ) (r : Option ℕ) → position p s ≡ r → IfSome r (λ i. i < length s)
within p s None h = tt
within p s (Some i) h = (position-Some p s i 0 h).0

pub place_within : (p : ℕ → Bool) (s : List ℕ) (r : Option ℕ) → r ≡ position p s → IfSome r (λ i. i < length s)
place_within p s r h = within p s r (sym h)
