-- The numbers of attributes are read from the texts that say them.
use Rattle.std.proofs.Common.{◌≡◌, ◌≢◌, ℕ, zero, suc, ◌+◌, ◌*◌, ◌-◌, ◌^◌, ◌<◌, ◌≤◌, ℤ, pos, neg_ℤ, Bool}
use Rattle.std.proofs.Common.{true, false}
use Rattle.std.proofs.Common.{cond, not, ◌&&◌, List, [], ◌∷◌, ◌++◌, length, take, drop, get_or, slice_index, Option}
use Rattle.std.proofs.Common.{None}
use Rattle.std.proofs.Common.{Some, nat_lt, nat_le, ◌==◌, refl, sym, ap, subst, ◌∙◌, arith, inl, inr, add-one}
use Rattle.std.proofs.Common.{lt-ltb, le-ltb, ltb-true, le-leb, leb-true, eqb-true, eq-eqb, ne_eqb}
use Rattle.std.specs.Prelude.{option_map, option_and_then, position}
use Rattle.std.specs.Int.{IsInRange}
use Rattle.std.specs.Char.{digit_value}
use Rattle.std.specs.List.{list_all, position_or_len, AllByRecursion}
use Rattle.std.specs.Str.Parse.{AllDigits, digits_value}
use Rattle.std.proofs.Math.Seq.{split_at}
use Rattle.std.proofs.lemmas.List.Quantifiers.{position-Some}
use Rattle.std.proofs.lemmas.Str.Parse.{digit_from_value}
use Rattle.std.proofs.lemmas.Option.{cond_some}
use Rattle.std.proofs.lemmas.Bool.{and_parts, and_from}
use Rattle.lemmas.proofs.Options.{option_and_then_parts, option_map_parts}
use Rattle.object_defs.proofs.Digits.{digit_value-digit}
use Rattle.lwm2m_values.specs.Value.{IsDecimal}
use Rattle.notifier.specs.declared.attribute.Name.{Name}
use Rattle.notifier.specs.declared.attribute.Name.TheVariants.{Pmin, Pmax, Gt, Lt, St}
use Rattle.notifier.specs.Query.{is_digit, are_digits, digits_of, seconds_of, fraction_of, unsigned_from, unsigned_of}
use Rattle.notifier.specs.Query.{thousandths_of, above_zero, attribute_number}
use Rattle.laws_reading.specs.Queries.{IsThousandths, IsSignedThousandths, SaysNumber}

-- digits

in_range : (c : ℕ) → is_digit c ≡ true → IsInRange 48 57 c
in_range c h = let p = and_parts (nat_le 48 c) (nat_le c 57) h in (leb-true 48 c p.0, leb-true c 57 p.1)

from_digit : (c : ℕ) → IsInRange 48 57 c → digit_value c < 10
from_digit c h = let same = digit_value-digit c h in omega (arith, h, same)

to_digit : (c : ℕ) → IsInRange 48 57 c → is_digit c ≡ true
to_digit c h = and_from (nat_le 48 c) (nat_le c 57) (le-leb 48 c h.0) (le-leb c 57 h.1)

digits_from : (t : List ℕ) → list_all is_digit t ≡ true → AllDigits 10 t
digits_from [] h = tt
digits_from (c ∷ cs) h =
    let p = and_parts (is_digit c) (list_all is_digit cs) h in (from_digit c (in_range c p.0), digits_from cs p.1)

digits_to : (t : List ℕ) → AllDigits 10 t → list_all is_digit t ≡ true
digits_to [] h = refl
digits_to (c ∷ cs) h =
    and_from (is_digit c) (list_all is_digit cs) (to_digit c (digit_from_value c h.0)) (digits_to cs h.1)

decimal_from : (t : List ℕ) → are_digits t ≡ true → IsDecimal (digits_value 10 t) t
decimal_from t h =
    let p = and_parts (nat_lt 0 (length t)) (list_all is_digit t) h in
    ((ltb-true 0 (length t) p.0, digits_from t p.1), refl)

decimal_to : (n : ℕ) (t : List ℕ) → IsDecimal n t → are_digits t ≡ true
decimal_to n t h =
    and_from (nat_lt 0 (length t)) (list_all is_digit t) (lt-ltb 0 (length t) h.0.0) (digits_to t h.0.1)

so_if : {T : Type 0} (b : Bool) (x y : T) → b ≡ true → x ≡ y → cond b (Some x) None ≡ Some y
so_if true x y h e = ap Some e
so_if false x y h e = cc h

few_from : (most n : ℕ) (t : List ℕ) → digits_of most t ≡ Some n → IsDecimal n t × (length t ≤ most)
few_from most n t h =
    let p = cond_some (are_digits t && nat_le (length t) most) (digits_value 10 t) n h in
    let q = and_parts (are_digits t) (nat_le (length t) most) p.0 in
    (subst (λ m. IsDecimal m t) p.1 (decimal_from t q.0), leb-true (length t) most q.1)

few_to : (most n : ℕ) (t : List ℕ) → IsDecimal n t → length t ≤ most → digits_of most t ≡ Some n
few_to most n t h short =
    so_if (are_digits t && nat_le (length t) most) (digits_value 10 t) n
    (and_from (are_digits t) (nat_le (length t) most) (decimal_to n t h) (le-leb (length t) most short)) h.1

seconds_from : (n : ℕ) (t : List ℕ) → seconds_of t ≡ Some n → IsDecimal n t × (n < 2147483648)
seconds_from n t h =
    let p = cond_some (are_digits t && nat_lt (digits_value 10 t) 2147483648) (digits_value 10 t) n h in
    let q = and_parts (are_digits t) (nat_lt (digits_value 10 t) 2147483648) p.0 in (
      subst (λ m. IsDecimal m t) p.1 (decimal_from t q.0),
      subst (λ m. m < 2147483648) p.1 (ltb-true (digits_value 10 t) 2147483648 q.1),
    )

seconds_to : (n : ℕ) (t : List ℕ) → IsDecimal n t → n < 2147483648 → seconds_of t ≡ Some n
seconds_to n t h small =
    so_if (are_digits t && nat_lt (digits_value 10 t) 2147483648) (digits_value 10 t) n
    (and_from (are_digits t) (nat_lt (digits_value 10 t) 2147483648) (decimal_to n t h)
    (lt-ltb (digits_value 10 t) 2147483648 (subst (λ m. m < 2147483648) (sym h.1) small))) h.1

-- a text at the first of one character

abbrev pub IsWithout : ℕ → List ℕ → Type 0
IsWithout k t = AllByRecursion (λ c. c ≢ k) t

first_with : (k : ℕ) (a b : List ℕ) → IsWithout k a → position_or_len (λ c. c == k) (a ++ k ∷ b) ≡ length a
first_with k [] b h =
    ap (λ t. cond (not t) (1 + position_or_len (λ c. c == k) b) 0) (eq-eqb k k refl)
first_with k (x ∷ a) b h =
    ap (λ t. cond (not t) (1 + position_or_len (λ c. c == k) (a ++ k ∷ b)) 0) (ne_eqb x k h.0)
    ∙ ap (λ n. 1 + n) (first_with k a b h.1) ∙ omega arith

first_without : (k : ℕ) (a : List ℕ) → IsWithout k a → position_or_len (λ c. c == k) a ≡ length a
first_without k [] h = refl
first_without k (x ∷ a) h =
    ap (λ t. cond (not t) (1 + position_or_len (λ c. c == k) a) 0) (ne_eqb x k h.0)
    ∙ ap (λ n. 1 + n) (first_without k a h.1) ∙ omega arith

seam : (a : List ℕ) (k : ℕ) (b : List ℕ) → length a < length (a ++ k ∷ b)
seam [] k b = omega arith
seam (x ∷ a) k b = let h = seam a k b in omega (arith, h)

pub place_with : (k : ℕ) (a b : List ℕ) → IsWithout k a → position (λ c. c == k) (a ++ k ∷ b) ≡ Some (length a)
place_with k a b h =
    ap (λ n. cond (nat_lt n (length (a ++ k ∷ b))) (Some n) None) (first_with k a b h)
    ∙ ap (λ t. cond t (Some (length a)) None) (lt-ltb (length a) (length (a ++ k ∷ b)) (seam a k b))

pub place_without : (k : ℕ) (a : List ℕ) → IsWithout k a → position (λ c. c == k) a ≡ None
place_without k a h =
    ap (λ n. cond (nat_lt n (length a)) (Some n) None) (first_without k a h)
    ∙ ap (λ t. cond t (Some (length a)) None) (le-ltb (length a) (length a) (omega arith))

pub cut_at : (k : ℕ) (t : List ℕ) (i : ℕ) → position (λ c. c == k) t ≡ Some i → t ≡ take i t ++ k ∷ drop (i + 1) t
cut_at k t i h =
    let p = position-Some (λ c. c == k) t i 0 h in
    split_at t i 0 p.0 ∙ ap (λ c. take i t ++ c ∷ drop (suc i) t) (eqb-true (get_or t i 0) k p.1)
    ∙ ap (λ n. take i t ++ k ∷ drop n t) (sym (add-one i))

pub front : (a : List ℕ) (k : ℕ) (b : List ℕ) → take (length a) (a ++ k ∷ b) ≡ a
front [] k b = refl
front (x ∷ a) k b = ap (λ t. x ∷ t) (front a k b)

pub back : (a : List ℕ) (k : ℕ) (b : List ℕ) → drop (length a + 1) (a ++ k ∷ b) ≡ b
back [] k b = refl
back (x ∷ a) k b = ap (λ n. drop n (x ∷ a ++ k ∷ b)) (suc_sum (length a)) ∙ back a k b
  where
    suc_sum : (n : ℕ) → suc n + 1 ≡ suc (n + 1)
    suc_sum n = omega arith

no_sign : (k : ℕ) (t : List ℕ) → k < 48 → AllDigits 10 t → IsWithout k t
no_sign k [] small h = tt
no_sign k (c ∷ cs) small h =
    ((λ e. let r = digit_from_value c h.0 in omega (arith, e, small, r.0)), no_sign k cs small h.1)

-- thousandths

part_from : (m : ℕ) (t : List ℕ) → fraction_of t ≡ Some m → (f : ℕ) × IsDecimal f t × (length t ≤ 3)
    × (f * 10 ^ (3 - length t) ≡ m)
part_from m t h =
    let p = option_map_parts (λ n. n * 10 ^ (3 - length t)) (digits_of 3 t) m h in
    let q = few_from 3 p.0 t p.1 in
    (p.0, q.0, q.1, p.2)

unsigned_by : (n : ℕ) (t : List ℕ) (r : Option ℕ) → position (λ c. c == 46) t ≡ r → unsigned_from t r ≡ Some n
    → IsThousandths n t
unsigned_by n t None e h =
    let p = option_map_parts (λ m. m * 1000) (digits_of 15 t) n h in
    let q = few_from 15 p.0 t p.1 in
    inl (p.0, q.0, q.1, sym p.2)
unsigned_by n t (Some i) e h =
    let p = option_and_then_parts (λ m. option_map (λ f. m * 1000 + f) (fraction_of (drop (i + 1) t)))
    (digits_of 15 (take i t)) n h in
    let q = few_from 15 p.0 (take i t) p.1 in
    let r = option_map_parts (λ f. p.0 * 1000 + f) (fraction_of (drop (i + 1) t)) n p.2 in
    let s = part_from r.0 (drop (i + 1) t) r.1 in
    inr (
      p.0,
      s.0,
      take i t,
      drop (i + 1) t,
      cut_at 46 t i e,
      q.0,
      q.1,
      s.1,
      s.2,
      sym r.2 ∙ ap (λ f. p.0 * 1000 + f) (sym s.3),
    )

unsigned_back : (n : ℕ) (t : List ℕ) → IsThousandths n t → unsigned_of t ≡ Some n
unsigned_back n t (inl p) =
    ap (unsigned_from t) (place_without 46 t (no_sign 46 t (omega arith) p.1.0.1))
    ∙ ap (option_map (λ m. m * 1000)) (few_to 15 p.0 t p.1 p.2) ∙ ap Some (sym p.3)
unsigned_back n t (inr p) =
    let w : ℕ = p.0 in
    let whole : List ℕ = p.2 in
    let part : List ℕ = p.3 in
    let by : ℕ → List ℕ → List ℕ → Option ℕ = λ k a b. option_and_then
    (λ m. option_map (λ f. m * 1000 + f) (fraction_of b)) (digits_of 15 a) in
    let shown : fraction_of part ≡ Some (p.1 * 10 ^ (3 - length part)) =
    ap (option_map (λ m. m * 10 ^ (3 - length part))) (few_to 3 p.1 part p.7 p.8) in
    ap unsigned_of p.4
    ∙ ap (unsigned_from (whole ++ 46 ∷ part)) (place_with 46 whole part (no_sign 46 whole (omega arith) p.5.0.1))
    ∙ ap (λ a. by 0 a (drop (length whole + 1) (whole ++ 46 ∷ part))) (front whole 46 part)
    ∙ ap (λ b. by 0 whole b) (back whole 46 part)
    ∙ ap (option_and_then (λ m. option_map (λ f. m * 1000 + f) (fraction_of part))) (few_to 15 w whole p.5 p.6)
    ∙ ap (option_map (λ f. w * 1000 + f)) shown ∙ ap Some (sym p.9)

-- a sign

no_minus : (n : ℕ) (t : List ℕ) → IsThousandths n t → slice_index t 0 ≢ 45
no_minus n [] (inl p) e = omega (arith, e)
no_minus n (c ∷ cs) (inl p) e = let r = digit_from_value c p.1.0.1.0 in omega (arith, e, r.0)
no_minus n t (inr p) e = begins p.2 p.3 p.5 (sym (ap (λ s. slice_index s 0) p.4) ∙ e)
  where
    begins : {w : ℕ} (a b : List ℕ) → IsDecimal w a → slice_index (a ++ 46 ∷ b) 0 ≢ 45
    begins [] b h e = omega (arith, h.0.0)
    begins (c ∷ cs) b h e = let r = digit_from_value c h.0.1.0 in omega (arith, e, r.0)

minus_first : (t : List ℕ) → slice_index t 0 ≡ 45 → t ≡ 45 ∷ drop 1 t
minus_first [] e = absurd (omega (arith, e))
minus_first (c ∷ cs) e = ap (λ x. x ∷ cs) e

signed_by : (z : ℤ) (t : List ℕ) (b : Bool) → (slice_index t 0 == 45) ≡ b
    → cond b (option_map (λ n. neg_ℤ (pos n)) (unsigned_of (drop 1 t))) (option_map pos (unsigned_of t)) ≡ Some z
    → IsSignedThousandths z t
signed_by z t true e h =
    let p = option_map_parts (λ n. neg_ℤ (pos n)) (unsigned_of (drop 1 t)) z h in
    inr (
      p.0,
      drop 1 t,
      minus_first t (eqb-true (slice_index t 0) 45 e),
      unsigned_by p.0 (drop 1 t) (position (λ c. c == 46) (drop 1 t)) refl p.1,
      sym p.2,
    )
signed_by z t false e h =
    let p = option_map_parts pos (unsigned_of t) z h in
    inl (p.0, unsigned_by p.0 t (position (λ c. c == 46) t) refl p.1, sym p.2)

plain_back : (n : ℕ) (t : List ℕ) → IsThousandths n t → thousandths_of t ≡ Some (pos n)
plain_back n t h =
    ap (λ b. cond b (option_map (λ n. neg_ℤ (pos n)) (unsigned_of (drop 1 t))) (option_map pos (unsigned_of t)))
    (ne_eqb (slice_index t 0) 45 (no_minus n t h)) ∙ ap (option_map pos) (unsigned_back n t h)

signed_back : (z : ℤ) (t : List ℕ) → IsSignedThousandths z t → thousandths_of t ≡ Some z
signed_back z t (inl p) = plain_back p.0 t p.1 ∙ ap Some (sym p.2)
signed_back z t (inr p) =
    ap thousandths_of p.2 ∙ ap (option_map (λ n. neg_ℤ (pos n))) (unsigned_back p.0 p.1 p.3) ∙ ap Some (sym p.4)

-- above 0

above_from : (n : ℕ) (z : ℤ) → above_zero (pos n) ≡ Some z → (0 < n) × (z ≡ pos n)
above_from n z h = let p = cond_some (nat_lt 0 n) (pos n) z h in (ltb-true 0 n p.0, sym p.1)

never_below : (n : ℕ) (z : ℤ) → above_zero (neg_ℤ (pos n)) ≡ Some z → ⊥
never_below zero z h = cc h
never_below (suc n) z h = cc h

above_to : (n : ℕ) → 0 < n → above_zero (pos n) ≡ Some (pos n)
above_to n h = so_if (nat_lt 0 n) (pos n) (pos n) (lt-ltb 0 n h) refl

step_by : (y z : ℤ) (t : List ℕ) → IsSignedThousandths y t → above_zero y ≡ Some z → SaysNumber St t z
step_by y z t (inl p) h =
    let q = above_from p.0 z (sym (ap above_zero p.2) ∙ h) in (p.0, p.1, q.0, q.1)
step_by y z t (inr p) h = absurd (never_below p.0 z (sym (ap above_zero p.4) ∙ h))

-- the number of each name

signed_from : (z : ℤ) (t : List ℕ) → thousandths_of t ≡ Some z → IsSignedThousandths z t
signed_from z t h = signed_by z t (slice_index t 0 == 45) refl h

pub said_number : (n : Name) (t : List ℕ) (z : ℤ) → attribute_number n t ≡ Some z → SaysNumber n t z
said_number Pmin t z h =
    let p = option_map_parts pos (seconds_of t) z h in let q = seconds_from p.0 t p.1 in (p.0, q.0, q.1, sym p.2)
said_number Pmax t z h =
    let p = option_map_parts pos (seconds_of t) z h in let q = seconds_from p.0 t p.1 in (p.0, q.0, q.1, sym p.2)
said_number Gt t z h = signed_from z t h
said_number Lt t z h = signed_from z t h
said_number St t z h =
    let p = option_and_then_parts above_zero (thousandths_of t) z h in step_by p.0 z t (signed_from p.0 t p.1) p.2

pub number_said : (n : Name) (t : List ℕ) (z : ℤ) → SaysNumber n t z → attribute_number n t ≡ Some z
number_said Pmin t z p = ap (option_map pos) (seconds_to p.0 t p.1 p.2) ∙ ap Some (sym p.3)
number_said Pmax t z p = ap (option_map pos) (seconds_to p.0 t p.1 p.2) ∙ ap Some (sym p.3)
number_said Gt t z p = signed_back z t p
number_said Lt t z p = signed_back z t p
number_said St t z p =
    ap (option_and_then above_zero) (plain_back p.0 t p.1) ∙ above_to p.0 p.2 ∙ ap Some (sym p.3)
