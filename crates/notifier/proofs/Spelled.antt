-- Thousandths without a sign, byte by byte: what is read has digits, and a point with digits or nothing; and such bytes
-- are read.
use Rattle.std.proofs.Common.{◌≡◌, ℕ, zero, suc, ◌+◌, ◌-◌, ◌*◌, ◌^◌, ◌<◌, ◌≤◌, ◌==◌, ◌⊎◌, inl, inr, true}
use Rattle.std.proofs.Common.{cond, ◌&&◌, List, [], ◌∷◌, ◌++◌, length, take, drop, get_or, Option, None, Some, nat_lt}
use Rattle.std.proofs.Common.{nat_le, position, refl, sym, ap, subst, ◌∙◌, arith, length-take, get_or-take}
use Rattle.std.proofs.Common.{leb-true, ltb-true, lt-ltb, eqb-true, eq-eqb, ne_eqb, length-drop, append_assoc}
use Rattle.std.proofs.lemmas.List.{length-append}
use Rattle.std.proofs.Math.ListN.{get_or-append}
use Rattle.std.proofs.Math.Seq.{get_or-append_seam}
use Rattle.std.specs.Int.{IsInRange}
use Rattle.std.specs.List.{list_all, position_or_len}
use Rattle.std.specs.Option.{option_map, option_and_then}
use Rattle.std.specs.Str.Parse.{digits_value}
use Rattle.std.proofs.Math.Seq.{take-append_seam}
use Rattle.std.proofs.lemmas.Bool.{and_parts}
use Rattle.std.proofs.lemmas.List.{drop_at, get_or-drop}
use Rattle.std.proofs.lemmas.List.Quantifiers.{position-Some}
use Rattle.std.proofs.lemmas.List.Sums.{position_or_len_is}
use Rattle.std.proofs.lemmas.Option.{cond_some}
use Rattle.lemmas.proofs.Options.{option_and_then_parts, option_map_parts}
use Rattle.object_defs.proofs.Digits.{AreDigits}
use Rattle.notifier.specs.Query.{are_digits, digits_of, fraction_of, is_digit, unsigned_from, unsigned_of}
use Rattle.notifier.proofs.DecimalTexts.{digits_of-all}

-- ---- digits

pub in_range : (c : ℕ) → is_digit c ≡ true → IsInRange 48 57 c
in_range c h = let p = and_parts (nat_le 48 c) (nat_le c 57) h in (leb-true 48 c p.0, leb-true c 57 p.1)

each_digit : (t : List ℕ) → list_all is_digit t ≡ true → AreDigits t
each_digit [] h i inside = absurd (omega (arith, inside))
each_digit (c ∷ cs) h zero inside = in_range c (and_parts (is_digit c) (list_all is_digit cs) h).0
each_digit (c ∷ cs) h (suc i) inside =
    each_digit cs (and_parts (is_digit c) (list_all is_digit cs) h).1 i (omega (arith, inside))

pub record AreFew (most : ℕ) (t : List ℕ) : Type 0 where
  pub digits : AreDigits t
  pub some : 0 < length t
  pub few : length t ≤ most

pub few_known : (most n : ℕ) (t : List ℕ) → digits_of most t ≡ Some n → AreFew most t
few_known most n t h =
    let p = cond_some (are_digits t && nat_le (length t) most) (digits_value 10 t) n h in
    let q = and_parts (are_digits t) (nat_le (length t) most) p.0 in
    let r = and_parts (nat_lt 0 (length t)) (list_all is_digit t) q.0 in
    record {
      digits = each_digit t r.1;
      some = ltb-true 0 (length t) r.0;
      few = leb-true (length t) most q.1;
    }

-- ---- what is read

-- so many digits, a point at this place, and 1 to 3 digits
pub record HasFraction (whole : ℕ) (t : List ℕ) : Type 0 where
  pub point : get_or t whole 0 ≡ 46
  pub some : whole + 2 ≤ length t
  pub few : length t ≤ whole + 4
  pub digits : (k : ℕ) → whole < k → k < length t → IsInRange 48 57 (get_or t k 0)

pub record IsSpelled (t : List ℕ) : Type 0 where
  pub whole : ℕ
  pub some : 1 ≤ whole
  pub few : whole ≤ 15
  pub within : whole ≤ length t
  pub digits : (k : ℕ) → k < whole → IsInRange 48 57 (get_or t k 0)
  pub rest : (length t ≡ whole) ⊎ HasFraction whole t

spelled_by : (t : List ℕ) (v : ℕ) (r : Option ℕ) → position (λ c. c == 46) t ≡ r → unsigned_from t r ≡ Some v
    → IsSpelled t
spelled_by t v None e h =
    let p = option_map_parts (λ m. m * 1000) (digits_of 15 t) v h in
    let few = few_known 15 p.0 t p.1 in
    record {
      whole = length t;
      some = omega (arith, few.some);
      few = few.few;
      within = omega arith;
      digits = few.digits;
      rest = inl refl;
    }
spelled_by t v (Some i) e h =
    let at = position-Some (λ c. c == 46) t i 0 e in
    let inside : i < length t = at.0 in
    let p = option_and_then_parts (λ m. option_map (λ f. m * 1000 + f) (fraction_of (drop (i + 1) t)))
    (digits_of 15 (take i t)) v h in
    let q = option_map_parts (λ f. p.0 * 1000 + f) (fraction_of (drop (i + 1) t)) v p.2 in
    let r = option_map_parts (λ n. n * 10 ^ (3 - length (drop (i + 1) t))) (digits_of 3 (drop (i + 1) t)) q.0 q.1 in
    let whole = few_known 15 p.0 (take i t) p.1 in
    let part = few_known 3 r.0 (drop (i + 1) t) r.1 in
    let before = length-take i t in
    let after = length-drop (i + 1) t in
    record {
      whole = i;
      some = omega (arith, whole.some, before, inside);
      few = omega (arith, whole.few, before, inside);
      within = omega (arith, inside);
      digits = λ k below. subst (IsInRange 48 57) (get_or-take i t k 0 below)
          (whole.digits k (omega (arith, before, inside, below)));
      rest = inr (record {
        point = eqb-true (get_or t i 0) 46 at.1;
        some = omega (arith, part.some, after, inside);
        few = omega (arith, part.few, after, inside);
        digits = λ k past below.
            let same : i + 1 + (k - (i + 1)) ≡ k = omega (arith, past) in
            subst (IsInRange 48 57)
            (get_or-drop (i + 1) t (k - (i + 1)) 0 ∙ ap (λ n. get_or t n 0) same)
            (part.digits (k - (i + 1)) (omega (arith, after, inside, past, below)));
      });
    }

pub spelled : (t : List ℕ) (v : ℕ) → unsigned_of t ≡ Some v → IsSpelled t
spelled t v h = spelled_by t v (position (λ c. c == 46) t) refl h

-- ---- what reads

-- digits, and a point with digits
pub with_fraction : (w g : List ℕ) → AreDigits w → 0 < length w → length w ≤ 15 → AreDigits g → 0 < length g
    → length g ≤ 3
    → unsigned_of (w ++ 46 ∷ g) ≡ Some (digits_value 10 w * 1000 + digits_value 10 g * 10 ^ (3 - length g))
with_fraction w g wd ws wf gd gs gf =
    let t = w ++ 46 ∷ g in
    let n = length w in
    let all : length t ≡ n + suc (length g) = length-append w (46 ∷ g) in
    let seam : get_or t n 0 ≡ 46 = get_or-append_seam w 46 g 0 in
    let place : position_or_len (λ c. c == 46) t ≡ n =
    position_or_len_is (λ c. c == 46) t n 0 (omega (arith, all))
    (λ k below. ne_eqb (get_or t k 0) 46 (λ e. let d = wd k below in
    let here = get_or-append w (46 ∷ g) 0 k below in omega (arith, d.0, here, e)))
    (λ _. eq-eqb (get_or t n 0) 46 seam) in
    let at : position (λ c. c == 46) t ≡ Some n =
    ap (λ i. cond (nat_lt i (length t)) (Some i) None) place
    ∙ ap (λ b. cond b (Some n) None) (lt-ltb n (length t) (omega (arith, all))) in
    let front : take n t ≡ w = take-append_seam w (46 ∷ g) in
    let back : drop (n + 1) t ≡ g = ap (drop (n + 1)) (sym (append_assoc w (46 ∷ []) g))
    ∙ drop_at (w ++ 46 ∷ []) g (n + 1) (length-append w (46 ∷ [])) in
    let part : fraction_of g ≡ Some (digits_value 10 g * 10 ^ (3 - length g)) =
    ap (option_map (λ m. m * 10 ^ (3 - length g))) (digits_of-all 3 g gd gs gf) in
    ap (unsigned_from t) at
    ∙ (λ j. option_and_then (λ m. option_map (λ f. m * 1000 + f) (fraction_of (back j))) (digits_of 15 (front j)))
    ∙ ap (option_and_then (λ m. option_map (λ f. m * 1000 + f) (fraction_of g))) (digits_of-all 15 w wd ws wf)
    ∙ ap (option_map (λ f. digits_value 10 w * 1000 + f)) part
