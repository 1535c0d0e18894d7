-- A word is a number's exactly where it is the number's decimal spelling.
use Rattle.std.proofs.Common.{◌≡◌, ℕ, suc, zero, ◌<◌, ◌≤◌, ◌^◌, ◌&&◌, ◌||◌, ◌↔◌, ℤ, pos, negsuc, neg_ℤ, w64, FitsSigned}
use Rattle.std.proofs.Common.{inl, inr, Bool, true, false, cond, eqb, ltb, leb, List, [], ◌∷◌, length, get_or, Result}
use Rattle.std.proofs.Common.{Ok, Err, ap, sym, refl, ◌∙◌, arith}
use Rattle.std.specs.Fmt.{decimal, signed_decimal}
use Rattle.std.specs.Str.Parse.{digits_value}
use Rattle.std.proofs.lemmas.Bool.{and_parts, and_from, or_cases, or_left, or_right, cases_eq, ltb-true, lt-ltb}
use Rattle.std.proofs.lemmas.Bool.{leb-true, le-leb, eq-eqb, eqb-true}
use Rattle.std.proofs.lemmas.Fmt.{digits_decimal, digits_value-decimal, decimal_nonempty, first_decimal, decimal_digit}
use Rattle.std.proofs.lemmas.Fmt.{decimal-digits_value}
use Rattle.scenario_words.specs.declared.cause.Cause.{Cause}
use Rattle.scenario_words.specs.declared.cause.Cause.TheVariants.{Token, Range}
use Rattle.scenario_words.specs.Number.{is_natural, is_number, number_of, integer_value, is_64_bits, integer_of}
use Rattle.scenario_words.proofs.Digits.{own, natural_digits, natural_some, no_minus, minus_number, plain_number}
use Rattle.scenario_words.proofs.Digits.{minus_value, plain_value}

-- a tested reading that gave a value
pub chosen : {A : Type 0} (b : Bool) (r : Result A Cause) (e : Cause) (x : A) → cond b r (Err e) ≡ Ok x → (b ≡ true)
    × (r ≡ Ok x)
chosen true r e x h = (refl, h)
chosen false r e x h = cc

pub chosen_value : {A : Type 0} (b : Bool) (v : A) (e : Cause) (x : A) → cond b (Ok v) (Err e) ≡ Ok x → (b ≡ true)
    × (v ≡ x)
chosen_value true v e x h = (refl, cc)
chosen_value false v e x h = cc

zero_alone : (ds : List ℕ) → is_natural ds ≡ true → get_or ds 0 0 ≡ 48 → length ds ≡ 1
zero_alone ds h z = elim (or_cases (ltb 48 (get_or ds 0 0)) (eqb (length ds) 1) (and_parts _ _ (and_parts _ _ h).1).1) [
  | inl more ↦ absurd (omega (arith, ltb-true 48 (get_or ds 0 0) more))
  | inr one ↦ eqb-true (length ds) 1 one
]

decimal_of : (ds : List ℕ) → is_natural ds ≡ true → digits_value 10 ds < 2 ^ 64 → decimal (digits_value 10 ds) ≡ ds
decimal_of ds h small = decimal-digits_value own ds (natural_digits ds h) (natural_some ds h) (zero_alone ds h) small

-- what `decimal` writes

first_of_decimal : (n : ℕ) → n < 2 ^ 64 → (ltb 48 (get_or (decimal n) 0 0) || eqb (length (decimal n)) 1) ≡ true
first_of_decimal n small = elim (cases_eq n 0) [
  | inl none ↦ or_right _ _ (eq-eqb (length (decimal n)) 1
      (ap length (ap decimal none ∙ decimal_digit 0 (omega arith))))
  | inr more ↦ or_left _ _ (lt-ltb 48 (get_or (decimal n) 0 0) (first_decimal n (omega arith) small))
]

pub is_natural-decimal : (n : ℕ) → n < 2 ^ 64 → is_natural (decimal n) ≡ true
is_natural-decimal n small =
    and_from _ _ (digits_decimal own n small)
    (and_from _ _ (lt-ltb 0 (length (decimal n)) (decimal_nonempty n small)) (first_of_decimal n small))

pub is_number-natural : (w : List ℕ) → is_natural w ≡ true → is_number w ≡ true
is_number-natural [] h = cc
is_number-natural (c ∷ cs) h = plain_number c cs (no_minus c cs h) ∙ h

pub integer_value-natural : (w : List ℕ) → is_natural w ≡ true → integer_value w ≡ pos (digits_value 10 w)
integer_value-natural [] h = cc
integer_value-natural (c ∷ cs) h = plain_value c cs (no_minus c cs h)

number_read : (low high n : ℕ) (w : List ℕ) → high < 2 ^ 64 → number_of low high w ≡ Ok n → (w ≡ decimal n) × (low ≤ n)
    × (n ≤ high)
number_read low high n w small h =
    let v = digits_value 10 w in
    let number = chosen _ _ Token n h in
    let inside = chosen_value _ v Range n number.1 in
    let tests = and_parts _ _ inside.0 in
    let bounds = and_parts _ _ tests.1 in
    let low_bound : low ≤ v = leb-true low v bounds.0 in
    let high_bound : v ≤ high = leb-true v high bounds.1 in
    let same : v ≡ n = inside.1 in
    (sym (decimal_of w tests.0 (omega arith)) ∙ ap decimal same, omega arith, omega arith)

number_again : (low high n : ℕ) (w : List ℕ) → high < 2 ^ 64 → (w ≡ decimal n) × (low ≤ n) × (n ≤ high)
    → number_of low high w ≡ Ok n
number_again low high n w small h =
    let fits : n < 2 ^ 64 = omega arith in
    let same : digits_value 10 (decimal n) ≡ n = digits_value-decimal own n fits in
    let natural = is_natural-decimal n fits in
    let inside : (leb low n && leb n high) ≡ true = and_from _ _ (le-leb low n h.1) (le-leb n high h.2) in
    ap (number_of low high) h.0
    ∙ ap (λ b. cond b (cond (is_natural (decimal n)
    && (leb low (digits_value 10 (decimal n)) && leb (digits_value 10 (decimal n)) high))
    (Ok (digits_value 10 (decimal n))) (Err Range)) (Err Token)) (is_number-natural (decimal n) natural)
    ∙ ap (λ b. cond (b && (leb low (digits_value 10 (decimal n)) && leb (digits_value 10 (decimal n)) high))
    (Ok (digits_value 10 (decimal n))) (Err Range)) natural
    ∙ ap (λ m. cond (leb low m && leb m high) (Ok m) (Err Range)) same
    ∙ ap (λ b. cond b (Ok n) (Err Range)) inside

pub number_of-law : (low high n : ℕ) (w : List ℕ) → high < 2 ^ 64 → (number_of low high w ≡ Ok n)
    ↔ ((w ≡ decimal n) × (low ≤ n) × (n ≤ high))
number_of-law low high n w small = (number_read low high n w small, number_again low high n w small)

-- integers

fits_64 : (z : ℤ) → is_64_bits z ≡ true → FitsSigned w64 z
fits_64 (pos n) h = record { sfits = ltb-true n 9223372036854775808 h }
fits_64 (negsuc n) h = record { sfits = ltb-true n 9223372036854775808 h }

pub tests_64 : (z : ℤ) → FitsSigned w64 z → is_64_bits z ≡ true
tests_64 (pos n) h = lt-ltb n 9223372036854775808 h.sfits
tests_64 (negsuc n) h = lt-ltb n 9223372036854775808 h.sfits

-- what stands after a minus sign
behind_minus : (cs : List ℕ) (m : ℕ) → decimal m ≡ cs → 48 < get_or cs 0 0 → 45 ∷ cs ≡ signed_decimal (neg_ℤ (pos m))
behind_minus cs zero e first = absurd (omega (arith, ap (λ t. get_or t 0 0) (sym (decimal_digit 0 (omega arith)) ∙ e)))
behind_minus cs (suc m) e first = ap (λ t. 45 ∷ t) (sym e)

small_negative : (n : ℕ) → is_64_bits (neg_ℤ (pos n)) ≡ true → n < 2 ^ 64
small_negative zero h = omega arith
small_negative (suc n) h = omega (arith, ltb-true n 9223372036854775808 h)

integer_spelled : (w : List ℕ) → is_number w ≡ true → is_64_bits (integer_value w) ≡ true
    → w ≡ signed_decimal (integer_value w)
integer_spelled [] h fits = cc
integer_spelled (c ∷ cs) h fits = elim (cases_eq c 45) [
  | inl minus ↦
      let parts = and_parts _ _ (sym (minus_number c cs minus) ∙ h) in
      let small = small_negative (digits_value 10 cs) (sym (ap is_64_bits (minus_value c cs minus)) ∙ fits) in
      ap (λ b. b ∷ cs) minus ∙ behind_minus cs (digits_value 10 cs) (decimal_of cs parts.0 small)
      (ltb-true 48 (get_or cs 0 0) parts.1)
      ∙ ap signed_decimal (sym (minus_value c cs minus))
  | inr plain ↦
      let natural = sym (plain_number c cs plain) ∙ h in
      let small = ltb-true (digits_value 10 (c ∷ cs)) 9223372036854775808
      (sym (ap is_64_bits (plain_value c cs plain)) ∙ fits) in
      sym (decimal_of (c ∷ cs) natural (omega arith)) ∙ ap signed_decimal (sym (plain_value c cs plain))
]

spelled_integer : (z : ℤ) → FitsSigned w64 z → (is_number (signed_decimal z) ≡ true)
    × (integer_value (signed_decimal z) ≡ z)
spelled_integer (pos n) fits =
    let small : n < 2 ^ 64 = omega (arith, fits.sfits) in
    let natural = is_natural-decimal n small in (
      is_number-natural (decimal n) natural,
      integer_value-natural (decimal n) natural ∙ ap pos (digits_value-decimal own n small),
    )
spelled_integer (negsuc n) fits =
    let small : suc n < 2 ^ 64 = omega (arith, fits.sfits) in (
      and_from _ _ (is_natural-decimal (suc n) small)
          (lt-ltb 48 (get_or (decimal (suc n)) 0 0) (first_decimal (suc n) (omega arith) small)),
      ap (λ m. neg_ℤ (pos m)) (digits_value-decimal own (suc n) small),
    )

integer_read : (z : ℤ) (w : List ℕ) → integer_of w ≡ Ok z → (w ≡ signed_decimal z) × FitsSigned w64 z
integer_read z w h =
    let number = chosen _ _ Token z h in
    let inside = chosen_value _ (integer_value w) Range z number.1 in
    let same : integer_value w ≡ z = inside.1 in
    (integer_spelled w number.0 inside.0 ∙ ap signed_decimal same, fits_64 z (sym (ap is_64_bits same) ∙ inside.0))

integer_again : (z : ℤ) (w : List ℕ) → (w ≡ signed_decimal z) × FitsSigned w64 z → integer_of w ≡ Ok z
integer_again z w h =
    let spelled = spelled_integer z h.1 in
    ap integer_of h.0
    ∙ ap (λ b. cond b (cond (is_64_bits (integer_value (signed_decimal z))) (Ok (integer_value (signed_decimal z)))
    (Err Range)) (Err Token)) spelled.0
    ∙ ap (λ y. cond (is_64_bits y) (Ok y) (Err Range)) spelled.1
    ∙ ap (λ b. cond b (Ok z) (Err Range)) (tests_64 z h.1)

pub integer_of-law : (z : ℤ) (w : List ℕ) → (integer_of w ≡ Ok z) ↔ ((w ≡ signed_decimal z) × FitsSigned w64 z)
integer_of-law z w = (integer_read z w, integer_again z w)
