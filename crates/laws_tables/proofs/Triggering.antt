-- What triggers an observation.
use Rattle.std.proofs.Common.{◌≡◌, ◌≢◌, ◌⊎◌, inl, inr, ◌↔◌, ℕ, ◌*◌, ◌<◌, ◌≤◌, ℤ, pos, negsuc, nat_abs, Bool, true}
use Rattle.std.proofs.Common.{false}
use Rattle.std.proofs.Common.{not, ◌&&◌, ◌||◌, cond, List, Option, None, Some, refl, sym, ap, ◌∙◌, arith}
use Rattle.std.specs.Prelude.{◌+ℤ◌, ◌-ℤ◌, ◌<ℤ◌, ◌≤ℤ◌, int_lt, int_le, nat_lt, nat_le, bytes_eq}
use Rattle.std.proofs.lemmas.Int.{ints}
use Rattle.std.proofs.lemmas.Bool.{and_from, and_parts, false≢true, leb-true, le-leb, ltb-true, lt-ltb, or_cases}
use Rattle.std.proofs.lemmas.Bool.{or_left}
use Rattle.std.proofs.lemmas.Bool.{or_right, not-true, false_from_ne_true}
use Rattle.std.proofs.lemmas.Slice.Eq.{bytes_eq-Decides}
use Rattle.notifier.specs.Trigger.{crosses_gt, crosses_lt, differ, has_condition, is_above, is_below, is_due, is_over}
use Rattle.notifier.specs.Trigger.{is_triggered, number_triggers, steps_st, thousandths}
use Rattle.laws_tables.specs.Triggers.{AnyMet, AnySet, CrossesGt, CrossesLt, Steps, Triggers}

-- ---- tests of integers

lt_true : (a b : ℤ) → int_lt a b ≡ true → a <ℤ b
lt_true a b h = grind (arith, ints)

lt_false : (a b : ℤ) → int_lt a b ≡ false → b ≤ℤ a
lt_false a b h = grind (arith, ints)

true_lt : (a b : ℤ) → a <ℤ b → int_lt a b ≡ true
true_lt a b h = grind (arith, ints)

false_lt : (a b : ℤ) → b ≤ℤ a → int_lt a b ≡ false
false_lt a b h = grind (arith, ints)

le_true : (a b : ℤ) → int_le a b ≡ true → a ≤ℤ b
le_true a b h = grind (arith, ints)

true_le : (a b : ℤ) → a ≤ℤ b → int_le a b ≡ true
true_le a b h = grind (arith, ints)

-- ---- one condition

rose : (gt old now : ℤ) (a b : Bool) → is_above gt old ≡ a → is_above gt now ≡ b → differ a b ≡ true
    → CrossesGt gt old now
rose gt old now true true e f h = cc
rose gt old now true false e f h = inr (lt_false gt (thousandths now) f, lt_true gt (thousandths old) e)
rose gt old now false true e f h = inl (lt_false gt (thousandths old) e, lt_true gt (thousandths now) f)
rose gt old now false false e f h = cc

rises : (gt old now : ℤ) → CrossesGt gt old now → differ (is_above gt old) (is_above gt now) ≡ true
rises gt old now (inl p) =
    ap (λ a. differ a (is_above gt now)) (false_lt gt (thousandths old) p.0) ∙ true_lt gt (thousandths now) p.1
rises gt old now (inr p) =
    ap (λ a. differ a (is_above gt now)) (true_lt gt (thousandths old) p.1)
    ∙ ap not (false_lt gt (thousandths now) p.0)

fell : (lt old now : ℤ) (a b : Bool) → is_below lt old ≡ a → is_below lt now ≡ b → differ a b ≡ true
    → CrossesLt lt old now
fell lt old now true true e f h = cc
fell lt old now true false e f h = inr (lt_false (thousandths now) lt f, lt_true (thousandths old) lt e)
fell lt old now false true e f h = inl (lt_false (thousandths old) lt e, lt_true (thousandths now) lt f)
fell lt old now false false e f h = cc

falls : (lt old now : ℤ) → CrossesLt lt old now → differ (is_below lt old) (is_below lt now) ≡ true
falls lt old now (inl p) =
    ap (λ a. differ a (is_below lt now)) (false_lt (thousandths old) lt p.0) ∙ true_lt (thousandths now) lt p.1
falls lt old now (inr p) =
    ap (λ a. differ a (is_below lt now)) (true_lt (thousandths old) lt p.1)
    ∙ ap not (false_lt (thousandths now) lt p.0)

-- how far two numbers are apart
apart : (old now d : ℤ) → now -ℤ old ≡ d
    → (now ≡ old +ℤ pos (nat_abs d)) ⊎ (old ≡ now +ℤ pos (nat_abs d))
apart old now (pos n) e = inl (omega (arith, ints, e))
apart old now (negsuc n) e = inr (omega (arith, ints, e))

change_of : (old now : ℤ) (n : ℕ) (d : ℤ) → now -ℤ old ≡ d → (now ≡ old +ℤ pos n) ⊎ (old ≡ now +ℤ pos n)
    → nat_abs d ≡ n
change_of old now n (pos m) e (inl h) = omega (arith, ints, e, h)
change_of old now n (pos m) e (inr h) = omega (arith, ints, e, h)
change_of old now n (negsuc m) e (inl h) = omega (arith, ints, e, h)
change_of old now n (negsuc m) e (inr h) = omega (arith, ints, e, h)

stepped : (st old now : ℤ) → int_le st (pos (nat_abs (now -ℤ old) * 1000)) ≡ true → Steps st old now
stepped st old now h =
    (nat_abs (now -ℤ old), apart old now (now -ℤ old) refl, le_true st (pos (nat_abs (now -ℤ old) * 1000)) h)

steps : (st old now : ℤ) → Steps st old now → int_le st (pos (nat_abs (now -ℤ old) * 1000)) ≡ true
steps st old now p =
    ap (λ n. int_le st (pos (n * 1000))) (change_of old now p.0 (now -ℤ old) refl p.1)
    ∙ true_le st (pos (p.0 * 1000)) p.2

-- ---- those that are set

gt_met : (gt : Option ℤ) (old now : ℤ) → crosses_gt gt old now ≡ true
    → (z : ℤ) × (gt ≡ Some z) × CrossesGt z old now
gt_met None old now h = cc
gt_met (Some z) old now h = (z, refl, rose z old now (is_above z old) (is_above z now) refl refl h)

lt_met : (lt : Option ℤ) (old now : ℤ) → crosses_lt lt old now ≡ true
    → (z : ℤ) × (lt ≡ Some z) × CrossesLt z old now
lt_met None old now h = cc
lt_met (Some z) old now h = (z, refl, fell z old now (is_below z old) (is_below z now) refl refl h)

st_met : (st : Option ℤ) (old now : ℤ) → steps_st st old now ≡ true → (z : ℤ) × (st ≡ Some z) × Steps z old now
st_met None old now h = cc
st_met (Some z) old now h = (z, refl, stepped z old now h)

met : (gt lt st : Option ℤ) (old now : ℤ) → number_triggers gt lt st old now ≡ true → AnyMet gt lt st old now
met gt lt st old now h = first (or_cases (crosses_gt gt old now) (crosses_lt lt old now || steps_st st old now) h)
  where
    second : (crosses_lt lt old now ≡ true) ⊎ (steps_st st old now ≡ true) → AnyMet gt lt st old now
    second (inl e) = inr (inl (lt_met lt old now e))
    second (inr e) = inr (inr (st_met st old now e))

    first : (crosses_gt gt old now ≡ true) ⊎ ((crosses_lt lt old now || steps_st st old now) ≡ true)
        → AnyMet gt lt st old now
    first (inl e) = inl (gt_met gt old now e)
    first (inr e) = second (or_cases (crosses_lt lt old now) (steps_st st old now) e)

any_met : (gt lt st : Option ℤ) (old now : ℤ) → AnyMet gt lt st old now → number_triggers gt lt st old now ≡ true
any_met gt lt st old now (inl p) =
    or_left (crosses_gt gt old now) (crosses_lt lt old now || steps_st st old now)
    (ap (λ g. crosses_gt g old now) p.1 ∙ rises p.0 old now p.2)
any_met gt lt st old now (inr (inl p)) =
    or_right (crosses_gt gt old now) (crosses_lt lt old now || steps_st st old now)
    (or_left (crosses_lt lt old now) (steps_st st old now)
    (ap (λ g. crosses_lt g old now) p.1 ∙ falls p.0 old now p.2))
any_met gt lt st old now (inr (inr p)) =
    or_right (crosses_gt gt old now) (crosses_lt lt old now || steps_st st old now)
    (or_right (crosses_lt lt old now) (steps_st st old now)
    (ap (λ g. steps_st g old now) p.1 ∙ steps p.0 old now p.2))

-- ---- the trigger

other_payload : (a b : List ℕ) → (not (bytes_eq a b) ≡ true) ↔ (b ≢ a)
other_payload a b = (
  (λ h e. false≢true (sym (not-true (bytes_eq a b) h) ∙ (bytes_eq-Decides a b).1 (sym e))),
  (λ h. ap not (false_from_ne_true (bytes_eq a b) (λ e. h (sym ((bytes_eq-Decides a b).0 e))))),
)

some_set : (gt lt st : Option ℤ) → AnySet gt lt st → has_condition gt lt st ≡ true
some_set (Some z) lt st h = refl
some_set None (Some z) st h = refl
some_set None None (Some z) h = refl
some_set None None None (inl h) = absurd (h refl)
some_set None None None (inr (inl h)) = absurd (h refl)
some_set None None None (inr (inr h)) = absurd (h refl)

no_none : (z : ℤ) → Some z ≢ None
no_none z h = cc

no_set : (gt lt st : Option ℤ) → ¬ (AnySet gt lt st) → has_condition gt lt st ≡ false
no_set (Some z) lt st h = absurd (h (inl (no_none z)))
no_set None (Some z) st h = absurd (h (inr (inl (no_none z))))
no_set None None (Some z) h = absurd (h (inr (inr (no_none z))))
no_set None None None h = refl

along : (b c : Bool) (P : Type 0) → b ≡ c → (c ≡ true) ↔ P → (b ≡ true) ↔ P
along b c P e h = ((λ k. h.0 (sym e ∙ k)), (λ p. e ∙ h.1 p))

pub by_saying : (gt lt st old now : Option ℤ) (old_payload payload : List ℕ)
    → Triggers gt lt st old now old_payload payload (is_triggered gt lt st old now old_payload payload)
by_saying gt lt st old now old_payload payload =
    record {
      numbers = λ a b e f set. along (is_triggered gt lt st old now old_payload payload) (number_triggers gt lt st a b)
          (AnyMet gt lt st a b)
          (ap (λ x. is_triggered gt lt st x now old_payload payload) e
          ∙ ap (λ x. is_triggered gt lt st (Some a) x old_payload payload) f
          ∙ ap (λ c. cond c (number_triggers gt lt st a b) (not (bytes_eq old_payload payload)))
          (some_set gt lt st set)) (met gt lt st a b, any_met gt lt st a b);
      none_set = λ none. along (is_triggered gt lt st old now old_payload payload)
          (not (bytes_eq old_payload payload)) (payload ≢ old_payload) (unset old now (no_set gt lt st none))
          (other_payload old_payload payload);
      no_numbers = λ none. along (is_triggered gt lt st old now old_payload payload)
          (not (bytes_eq old_payload payload)) (payload ≢ old_payload) (unnumbered old now none)
          (other_payload old_payload payload);
    }
  where
    unset : (x y : Option ℤ) → has_condition gt lt st ≡ false
        → is_triggered gt lt st x y old_payload payload ≡ not (bytes_eq old_payload payload)
    unset (Some a) (Some b) h =
        ap (λ c. cond c (number_triggers gt lt st a b) (not (bytes_eq old_payload payload))) h
    unset (Some a) None h = refl
    unset None y h = refl

    unnumbered : (x y : Option ℤ) → (x ≡ None) ⊎ (y ≡ None)
        → is_triggered gt lt st x y old_payload payload ≡ not (bytes_eq old_payload payload)
    unnumbered None y h = refl
    unnumbered (Some a) None h = refl
    unnumbered (Some a) (Some b) (inl h) = absurd (no_none a h)
    unnumbered (Some a) (Some b) (inr h) = absurd (no_none b h)

-- ---- periods

over : (age pmin : ℕ) (pmax : Option ℕ) → is_over age pmin pmax ≡ true
    → (p : ℕ) × (pmax ≡ Some p) × (0 < p) × (pmin ≤ p) × (p ≤ age)
over age pmin None h = cc
over age pmin (Some p) h =
    let a = and_parts (nat_lt 0 p) (nat_le pmin p && nat_le p age) h in
    let b = and_parts (nat_le pmin p) (nat_le p age) a.1 in
    (p, refl, ltb-true 0 p a.0, leb-true pmin p b.0, leb-true p age b.1)

is_past : (age pmin : ℕ) (pmax : Option ℕ) (p : ℕ) → pmax ≡ Some p → 0 < p → pmin ≤ p → p ≤ age
    → is_over age pmin pmax ≡ true
is_past age pmin pmax p e a b c =
    ap (is_over age pmin) e
    ∙ and_from (nat_lt 0 p) (nat_le pmin p && nat_le p age) (lt-ltb 0 p a)
    (and_from (nat_le pmin p) (nat_le p age) (le-leb pmin p b) (le-leb p age c))

pub by_age : (age pmin : ℕ) (pmax : Option ℕ) (triggered : Bool)
    → (is_due age pmin pmax triggered ≡ true)
    ↔ ((pmin ≤ age)
    × ((triggered ≡ true) ⊎ ((p : ℕ) × (pmax ≡ Some p) × (0 < p) × (pmin ≤ p) × (p ≤ age))))
by_age age pmin pmax triggered = (
  (λ h. let a = and_parts (nat_le pmin age) (triggered || is_over age pmin pmax) h in
      (leb-true pmin age a.0, why (or_cases triggered (is_over age pmin pmax) a.1))),
  (λ p. and_from (nat_le pmin age) (triggered || is_over age pmin pmax) (le-leb pmin age p.0) (so p.1)),
)
  where
    why : (triggered ≡ true) ⊎ (is_over age pmin pmax ≡ true)
        → (triggered ≡ true) ⊎ ((p : ℕ) × (pmax ≡ Some p) × (0 < p) × (pmin ≤ p) × (p ≤ age))
    why (inl h) = inl h
    why (inr h) = inr (over age pmin pmax h)

    so : (triggered ≡ true) ⊎ ((p : ℕ) × (pmax ≡ Some p) × (0 < p) × (pmin ≤ p) × (p ≤ age))
        → (triggered || is_over age pmin pmax) ≡ true
    so (inl h) = or_left triggered (is_over age pmin pmax) h
    so (inr p) = or_right triggered (is_over age pmin pmax) (is_past age pmin pmax p.0 p.1 p.2 p.3 p.4)
