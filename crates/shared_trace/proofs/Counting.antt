-- Tables of posts, while groups are counted.
use Rattle.std.proofs.Common.{◌≡◌, ℕ, zero, suc, ◌+◌, ◌<◌, ◌≤◌, eqb, ◌⊎◌, inl, inr, List, [], ◌∷◌, length, set, take, get_or}
use Rattle.std.proofs.Common.{slice_index, sym, ap, subst, ◌∙◌, arith, get_or-set_same, get_or-set_other}
use Rattle.std.specs.Prelude.{◌==◌, count_by}
use Rattle.std.specs.List.{AllByRecursion}
use Rattle.std.proofs.lemmas.List.Sums.{count_by_more_yes, count_by_more_no, sum_by-take-le}
use Rattle.std.proofs.lemmas.Bool.{eq-eqb, ne_eqb}
use Rattle.std.proofs.lemmas.List.{get_or_read}
use Rattle.fleet_core.proofs.Posts.{one}

pub within_at : (n : ℕ) (groups : List ℕ) (i : ℕ) → AllByRecursion (λ h. h < n) groups → i < length groups
    → get_or groups i 0 < n
within_at n [] i all less = absurd (omega (arith, less))
within_at n (g ∷ gs) zero all less = all.0
within_at n (g ∷ gs) (suc i) all less = within_at n gs i all.1 (omega (arith, less))

pub room_at : (old now groups : List ℕ) (i group count : ℕ) → AllByRecursion (λ h. h < length old) groups
    → ((g : ℕ) → slice_index old g + count_by (λ h. h == g) groups < 4294967296)
    → length now ≡ length old
    → ((g : ℕ) → slice_index now g ≡ slice_index old g + count_by (λ h. h == g) (take i groups)) → i < length groups
    → group ≡ get_or groups i 0
    → count ≡ get_or now group count → count + 1 < 4294967296
room_at old now groups i group count within room same sums less from read =
    let here : group < length now = omega (arith, from, within_at (length old) groups i within less, same) in
    let more : count_by (λ h. h == group) (take (i + 1) groups) ≡ count_by (λ h. h == group) (take i groups) + 1 =
    count_by_more_yes (λ h. h == group) groups i 0 less (eq-eqb (get_or groups i 0) group (sym from)) in
    let most : count_by (λ h. h == group) (take (i + 1) groups) ≤ count_by (λ h. h == group) groups =
    sum_by-take-le (λ h. one (eqb h group)) groups (i + 1) in
    omega (arith, get_or_read now group count here read 0, sums group, more, most, room group)

-- one group more
pub sum_at : (old now groups : List ℕ) (i group count g : ℕ) → group < length now
    → ((g : ℕ) → slice_index now g ≡ slice_index old g + count_by (λ h. h == g) (take i groups)) → i < length groups
    → group ≡ get_or groups i 0 → count ≡ get_or now group count → (group ≡ g) ⊎ (group ≡ g → ⊥)
    → slice_index (set now group (count + 1)) g ≡ slice_index old g + count_by (λ h. h == g) (take (i + 1) groups)
sum_at old now groups i group count g here sums less from read (inl same) =
    let more : count_by (λ h. h == g) (take (i + 1) groups) ≡ count_by (λ h. h == g) (take i groups) + 1 =
    count_by_more_yes (λ h. h == g) groups i 0 less (eq-eqb (get_or groups i 0) g (sym from ∙ same)) in
    let put : slice_index (set now group (count + 1)) g ≡ count + 1 =
    subst (λ j. slice_index (set now group (count + 1)) j ≡ count + 1) same
    (get_or-set_same now group (count + 1) 0 here) in
    let was : slice_index now group ≡ slice_index now g = ap (slice_index now) same in
    omega (arith, put, more, sums g, was, get_or_read now group count here read 0)
sum_at old now groups i group count g here sums less from read (inr other) =
    let more : count_by (λ h. h == g) (take (i + 1) groups) ≡ count_by (λ h. h == g) (take i groups) =
    count_by_more_no (λ h. h == g) groups i 0 less (ne_eqb (get_or groups i 0) g (λ e. other (from ∙ e))) in
    let put : slice_index (set now group (count + 1)) g ≡ slice_index now g =
    get_or-set_other now group g (count + 1) 0 (λ q. other (sym q)) in
    omega (arith, put, more, sums g)
