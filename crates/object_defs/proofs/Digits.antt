-- Decimal forms of numbers, read back.
use Rattle.std.proofs.Common.{◌≡◌, ℕ, ◌-◌, ◌<◌, ◌≤◌, ◌^◌, ◌↔◌, Bool, true, false, cond, ◌&&◌, List, [], ◌∷◌, Option}
use Rattle.std.proofs.Common.{None, Some, length, get_or, refl, sym, ap, subst, ◌∙◌, arith, ltb, lt-ltb, ltb-true, lit<}
use Rattle.std.proofs.Common.{inl, inr}
use Rattle.std.specs.Int.{IsInRange, IsOutOfRange}
use Rattle.std.specs.Result.{OkIff, result_ok}
use Rattle.std.specs.Str.{bytes_eq}
use Rattle.std.specs.Str.Parse.{digits_value}
use Rattle.std.specs.Char.{digit_value}
use Rattle.std.specs.Fmt.{decimal}
use Rattle.std.proofs.lemmas.Str.Parse.{IsNumeralModel, numerals_by_value, tells_by_index, digits_value_short}
use Rattle.std.proofs.lemmas.Fmt.{digits_value-decimal, digits_decimal, decimal-digits_value, first_decimal}
use Rattle.std.proofs.lemmas.Fmt.{decimal_nonempty, length-decimal-le, decimal_digit}
use Rattle.std.proofs.lemmas.Slice.Eq.{bytes_eq-Decides, text_from_reads}
use Rattle.std.proofs.Common.{take, length-take, get_or-take, Result, Ok, Err, le-ltb, take_all}
use Rattle.std.proofs.lemmas.Bool.Decides.{nat_tests}
use Rattle.std.proofs.lemmas.Bool.{and_parts, cases_eq}
use Rattle.std.proofs.lemmas.Option.{cond_some}
use Rattle.object_defs.specs.Decimal.{decimal_number}

abbrev pub AreDigits : List ℕ → Type 0
AreDigits ds = (i : ℕ) → i < length ds → IsInRange 48 57 (get_or ds i 0)

pub own : IsNumeralModel AreDigits (digits_value 10)
own = numerals_by_value AreDigits tells_by_index

-- the number that a decimal form gives is that number
pub decimal_number-law : (s : List ℕ) (n : ℕ) → (decimal_number s ≡ Some n) ↔ ((n < 65536) × (s ≡ decimal n))
decimal_number-law s n = (
  (λ h.
      let parts = cond_some _ _ _ h in
      let tests = and_parts _ _ parts.0 in (
        subst (λ m. m < 65536) parts.1 (ltb-true _ _ tests.0),
        sym ((bytes_eq-Decides _ _).0 tests.1) ∙ ap decimal parts.1,
      )),
  (λ p.
      let same : digits_value 10 s ≡ n = ap (digits_value 10) p.1 ∙ digits_value-decimal own n (omega (arith, p.0)) in
      let small : ltb (digits_value 10 s) 65536 ≡ true = lt-ltb _ _ (subst (λ m. m < 65536) (sym same) p.0) in
      let equal : bytes_eq (decimal (digits_value 10 s)) s ≡ true =
      (bytes_eq-Decides _ _).1 (ap decimal same ∙ sym p.1) in
      ap (λ b. cond (b && bytes_eq (decimal (digits_value 10 s)) s) (Some (digits_value 10 s)) None) small
      ∙ ap (λ b. cond b (Some (digits_value 10 s)) None) equal ∙ ap Some same),
)

missing : (o : Option ℕ) → ((n : ℕ) → o ≡ Some n → ⊥) → None ≡ o
missing None h = refl
missing (Some n) h = absurd (h n refl)

-- bytes that are no decimal form
pub decimal_number-none : (s : List ℕ) → ((n : ℕ) → n < 65536 → s ≡ decimal n → ⊥) → None ≡ decimal_number s
decimal_number-none s h = missing (decimal_number s) (λ n e. let p = (decimal_number-law s n).0 e in h n p.0 p.1)

pub none-empty : (s : List ℕ) → length s ≡ 0 → None ≡ decimal_number s
none-empty s h = decimal_number-none s (λ n small e. omega (arith, ap length e, decimal_nonempty n (omega arith)))

pub none-long : (s : List ℕ) → 5 < length s → None ≡ decimal_number s
none-long s h = decimal_number-none s (λ n small e. omega
    (arith, ap length e, length-decimal-le 5 n (omega arith) (omega arith) (omega arith)))

pub zero_alone : (s : List ℕ) → get_or s 0 0 ≡ 48 → length s ≡ 1 → Some 0 ≡ decimal_number s
zero_alone s h one =
    sym ((decimal_number-law s 0).1 (
      lit< tt,
      text_from_reads s (48 ∷ []) one (h, tt) ∙ sym (decimal_digit 0 (lit< tt)),
    ))

zero_first : (s : List ℕ) (n : ℕ) → n < 65536 → get_or s 0 0 ≡ 48 → s ≡ decimal n → length s ≡ 1
zero_first s n small h e =
    elim (cases_eq n 0) [
      | inl zero ↦ ap length (e ∙ ap decimal zero ∙ decimal_digit 0 (lit< tt))
      | inr other ↦ absurd (omega (
        arith,
        other,
        h,
        first_decimal n (omega (arith, other)) (omega arith),
        ap (λ t. get_or t 0 0) e,
      ))
    ]

pub none-zero : (s : List ℕ) → get_or s 0 0 ≡ 48 → (length s ≡ 1 → ⊥) → None ≡ decimal_number s
none-zero s h long = decimal_number-none s (λ n small e. long (zero_first s n small h e))

pub none-other : (s : List ℕ) (i : ℕ) → i < length s → (IsInRange 48 57 (get_or s i 0) → ⊥) → None ≡ decimal_number s
none-other s i inside other =
    decimal_number-none s (λ n small e. other
    (subst (λ t. (i : ℕ) → i < length t → IsInRange 48 57 (get_or t i 0)) (sym e)
    (digits_decimal own n (omega arith)) i inside))

and_true : {A : Type 0} (b : Bool) (x y : A) → cond (b && true) x y ≡ cond b x y
and_true true x y = refl
and_true false x y = refl

pub decimal_number-digits : (s : List ℕ) → AreDigits s → 0 < length s → (get_or s 0 0 ≡ 48 → ⊥) → length s ≤ 5
    → decimal_number s ≡ cond (ltb (digits_value 10 s) 65536) (Some (digits_value 10 s)) None
decimal_number-digits s digits some first short =
    let small : digits_value 10 s < 10 ^ 5 = digits_value_short own s 5 digits short in
    let again : decimal (digits_value 10 s) ≡ s =
    decimal-digits_value own s digits some (λ z. absurd (first z)) (omega arith) in
    ap (λ b. cond (ltb (digits_value 10 s) 65536 && b) (Some (digits_value 10 s)) None) ((bytes_eq-Decides _ _).1 again)
    ∙ and_true (ltb (digits_value 10 s) 65536) _ _

pub digit_value-digit : (c : ℕ) → IsInRange 48 57 c → digit_value c ≡ c - 48
digit_value-digit c h = grind (arith, nat_tests)

-- the number that the first digits make, of at most five
pub short_number : (s : List ℕ) (i : ℕ) → ((k : ℕ) → k < i → IsInRange 48 57 (get_or s k 0)) → i ≤ length s → i ≤ 5
    → digits_value 10 (take i s) < 10 ^ 5
short_number s i digits inside short =
    digits_value_short own (take i s) 5 (λ k h. let below : k < i =
    omega (arith, length-take i s) in rw get_or-take (digits k below)) (omega (arith, length-take i s))

pub outside : (c : ℕ) → IsOutOfRange 48 57 c → IsInRange 48 57 c → ⊥
outside c (inl h) g = omega arith
outside c (inr h) g = omega arith

-- a number that is narrowed to 16 bits
pub narrowed : {E : Type 0} (r : Result ℕ E) (n : ℕ) → OkIff r (n < 65536) n
    → result_ok r ≡ cond (ltb n 65536) (Some n) None
narrowed (Ok x) n h = rw (lt-ltb n 65536 h.0) (ap Some h.1)
narrowed (Err e) n h = rw (le-ltb n 65536 (omega (arith, h))) refl

-- all the digits were read
pub all_read : (s : List ℕ) (i n : ℕ) → length s ≤ i → n ≡ digits_value 10 (take i s) → n ≡ digits_value 10 s
all_read s i n end is = is ∙ ap (digits_value 10) (take_all i s end)
