-- How long the tables of posts are: by the rows one after another, and that each group that is posted to has a place.
use Rattle.std.proofs.Common.{◌≡◌, ℕ, zero, suc, ◌+◌, ◌<◌, ◌≤◌, max, List, [], ◌∷◌, length, take, slice_get}
use Rattle.std.proofs.Common.{Option, None, Some, ap, subst, ◌∙◌, arith}
use Rattle.std.specs.List.{fold}
use Rattle.scenario_image.specs.declared.step.Step.{Step}
use Rattle.scenario_image.specs.declared.step.Step.TheVariants.{Post}
use Rattle.scenario_image.specs.Scenario.{Row, Scenario}
use Rattle.fleet_core.specs.Run.{steps_in, step_at}
use Rattle.shared_trace.specs.Kept.{places_for, places_for_steps, places_for_rows, table_length}

-- ---- one row more

max_three : (a b c : ℕ) → max a (max b c) ≡ max (max a b) c
max_three a b c = omega arith

rows_suc : (rows : List Row) (i : ℕ) → i < length rows
    → places_for_rows (take (suc i) rows)
    ≡ max (places_for_rows (take i rows)) (places_for_steps (steps_in (slice_get rows i)))
rows_suc [] i less = absurd (omega (arith, less))
rows_suc (r ∷ rows) zero less = omega arith
rows_suc (r ∷ rows) (suc i) less =
    ap (λ n. max (places_for_steps r.steps) n) (rows_suc rows i (omega (arith, less)))
    ∙ max_three (places_for_steps r.steps) (places_for_rows (take i rows))
    (places_for_steps (steps_in (slice_get rows i)))

pub more_rows : (rows : List Row) (i : ℕ) → i < length rows
    → places_for_rows (take (i + 1) rows)
    ≡ max (places_for_rows (take i rows)) (places_for_steps (steps_in (slice_get rows i)))
more_rows rows i less =
    let e : i + 1 ≡ suc i = omega arith in
    ap (λ n. places_for_rows (take n rows)) e ∙ rows_suc rows i less

-- ---- a place for each post

-- the greatest is not below the one that it begins with, nor below those of the steps
from_on : (most : ℕ) (steps : List Step) → most ≤ fold (λ most step. max most (places_for step)) most steps
from_on most [] = omega arith
from_on most (step ∷ steps) = omega (arith, from_on (max most (places_for step)) steps)

has_from : (most : ℕ) (steps : List Step) (k : ℕ) (step : Step) → slice_get steps k ≡ Some step
    → places_for step ≤ fold (λ most step. max most (places_for step)) most steps
has_from most [] zero step at = let e : None ≡ Some step = at in absurd cc
has_from most [] (suc k) step at = let e : None ≡ Some step = at in absurd cc
has_from most (x ∷ xs) zero step at =
    let e : Some x ≡ Some step = at in
    let same : x ≡ step = cc in
    subst (λ y. places_for y ≤ fold (λ most step. max most (places_for step)) (max most (places_for x)) xs) same
    (omega (arith, from_on (max most (places_for x)) xs))
has_from most (x ∷ xs) (suc k) step at = has_from (max most (places_for x)) xs k step at

row_has_place : (row : Option Row) (k group : ℕ) → slice_get (steps_in row) k ≡ Some (Post group)
    → group < places_for_steps (steps_in row)
row_has_place None zero group at = let e : None ≡ Some (Post group) = at in absurd cc
row_has_place None (suc k) group at = let e : None ≡ Some (Post group) = at in absurd cc
row_has_place (Some row) k group at =
    let h : group + 1 ≤ places_for_steps row.steps = has_from 0 row.steps k (Post group) at in omega (arith, h)

row_within : (rows : List Row) (d : ℕ) → places_for_steps (steps_in (slice_get rows d)) ≤ places_for_rows rows
row_within [] zero = omega arith
row_within [] (suc d) = omega arith
row_within (r ∷ rows) zero = omega arith
row_within (r ∷ rows) (suc d) = omega (arith, row_within rows d)

pub post_has_place : (s : Scenario) (d k group : ℕ) → step_at s d k ≡ Some (Post group) → group < table_length s
post_has_place s d k group at =
    omega (arith, row_has_place (slice_get s.rows d) k group at, row_within s.rows d)
