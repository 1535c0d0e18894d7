-- One note more is counted.
use Rattle.std.proofs.Common.{◌≡◌, ℕ, ◌+◌, Bool, true, false, cond, List, [], ◌∷◌, ◌++◌, refl, sym, ap, ◌∙◌, arith}
use Rattle.std.proofs.Common.{zero-add}
use Rattle.std.proofs.lemmas.List.Sums.{sum_by-append}
use Rattle.std.specs.List.{count_by}
use Rattle.fleet_link.specs.Counting.{one_more, saturated_count}
use Rattle.fleet_wire.specs.declared.happened.Happened.{Happened}
use Rattle.fleet_wire.specs.declared.note.Note.{Note}
use Rattle.fleet_wire.specs.declared.plan.Fate.{Fate}
use Rattle.fleet_wire.specs.declared.plan.Fate.TheVariants.{Late, Lost, Passes, Swapped, Twice}
use Rattle.fleet_wire.specs.Happened.{happened_in, is_late, is_lost, is_swapped, is_twice}

pub count_more : {X : Type 0} (p : X → Bool) (xs : List X) (x : X)
    → count_by p (xs ++ x ∷ []) ≡ count_by p xs + cond (p x) 1 0
count_more p xs x =
    sum_by-append (λ y. cond (p y) 1 0) xs (x ∷ [])
    ∙ ap (λ n. count_by p xs + n) (zero-add (cond (p x) 1 0))

-- what counts add, by the fate
abbrev pub add_if : Bool → ℕ → ℕ
add_if true n = one_more n
add_if false n = n

count_if : (b : Bool) (n k : ℕ) → n ≡ k + cond b 1 0 → saturated_count n ≡ add_if b (saturated_count k)
count_if true n k h = omega (arith, h)
count_if false n k h = omega (arith, h)

pub more_of : (p : Note → Bool) (notes : List Note) (note : Note)
    → saturated_count (count_by p (notes ++ note ∷ [])) ≡ add_if (p note) (saturated_count (count_by p notes))
more_of p notes note =
    count_if (p note) (count_by p (notes ++ note ∷ [])) (count_by p notes) (count_more p notes note)

abbrev pub with_fate : Happened → Fate → Happened
with_fate h fate =
    record {
      lost = add_if (is_lost fate) h.lost;
      twice = add_if (is_twice fate) h.twice;
      swapped = add_if (is_swapped fate) h.swapped;
      late = add_if (is_late fate) h.late;
    }

abbrev these : ℕ → ℕ → ℕ → ℕ → Happened
these a b c d = record { lost = a; twice = b; swapped = c; late = d }

same : (a b c d a2 b2 c2 d2 : ℕ) → a ≡ a2 → b ≡ b2 → c ≡ c2 → d ≡ d2 → these a b c d ≡ these a2 b2 c2 d2
same a b c d a2 b2 c2 d2 e f g h = cc

pub one_note : (notes : List Note) (note : Note)
    → happened_in (notes ++ note ∷ []) ≡ with_fate (happened_in notes) note.fate
one_note notes note =
    same _ _ _ _ _ _ _ _ (more_of (λ n. is_lost n.fate) notes note) (more_of (λ n. is_twice n.fate) notes note)
    (more_of (λ n. is_swapped n.fate) notes note) (more_of (λ n. is_late n.fate) notes note)

-- counts that were right, and then with this fate
pub one_more_note : (old new : Happened) (notes : List Note) (note : Note) → new ≡ with_fate old note.fate
    → old ≡ happened_in notes → new ≡ happened_in (notes ++ note ∷ [])
one_more_note old new notes note is was = is ∙ ap (λ h. with_fate h note.fate) was ∙ sym (one_note notes note)
