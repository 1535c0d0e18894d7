-- How many events are among the first steps of a row.
use Rattle.std.proofs.Common.{◌≡◌, ℕ, zero, suc, ◌+◌, ◌≤◌, Bool, true, false, cond, List, [], ◌∷◌, ◌++◌, length, take}
use Rattle.std.proofs.Common.{filter, Some, slice_get, refl, ap, ◌∙◌, arith, length-append}
use Rattle.std.proofs.lemmas.List.Elements.{filter-append}
use Rattle.lemmas.proofs.Lists.{take_one_more}
use Rattle.scenario_image.specs.declared.step.Step.{Step}
use Rattle.scenario_image.specs.Play.{is_event}
use Rattle.scenario_image.specs.Scenario.{Scenario}
use Rattle.fleet_core.specs.Run.{step_at, steps_in}
use Rattle.debugger.specs.Replayed.{events_by}

-- ---- of a list

cond_length : {X : Type 0} (b : Bool) (x : X) (xs : List X) → length (cond b (x ∷ xs) xs) ≡ length xs + cond b 1 0
cond_length true x xs = omega arith
cond_length false x xs = omega arith

cond_few : (b : Bool) (n : ℕ) → n ≡ cond b 1 0 → n ≤ 1
cond_few true n h = omega (arith, h)
cond_few false n h = omega (arith, h)

-- one more, or none
pub filter_one : {X : Type 0} (p : X → Bool) (x : X) (xs : List X)
    → length (filter p (x ∷ xs)) ≡ length (filter p xs) + cond (p x) 1 0
filter_one p x xs = cond_length (p x) x (filter p xs)

pub filter_push : {X : Type 0} (p : X → Bool) (xs : List X) (x : X)
    → length (filter p (xs ++ x ∷ [])) ≡ length (filter p xs) + cond (p x) 1 0
filter_push p xs x =
    ap length (filter-append p xs (x ∷ [])) ∙ length-append (filter p xs) (filter p (x ∷ []))
    ∙ ap (λ n. length (filter p xs) + n) (filter_one p x [] ∙ omega arith)

pub few_taken : {X : Type 0} (p : X → Bool) (n : ℕ) (xs : List X) → length (filter p (take n xs)) ≤ n
few_taken p zero [] = omega arith
few_taken p zero (x ∷ xs) = omega arith
few_taken p (suc n) [] = omega arith
few_taken p (suc n) (x ∷ xs) =
    let one = filter_one p x (take n xs) in
    let rest = few_taken p n xs in
    let few = cond_few (p x) (cond (p x) 1 0) refl in
    omega (arith, one, rest, few)

none_taken : {X : Type 0} (p : X → Bool) (xs : List X) (n : ℕ) → length (filter p (take 0 xs)) ≤ n
none_taken p [] n = omega arith
none_taken p (x ∷ xs) n = omega arith

-- more of a list have as many, and at most one more for each
pub more_taken : {X : Type 0} (p : X → Bool) (a b : ℕ) (xs : List X) → a ≤ b
    → length (filter p (take a xs)) ≤ length (filter p (take b xs))
more_taken p zero b xs le = none_taken p xs (length (filter p (take b xs)))
more_taken p (suc a) zero xs le = absurd (omega (arith, le))
more_taken p (suc a) (suc b) [] le = omega arith
more_taken p (suc a) (suc b) (x ∷ xs) le =
    let one = filter_one p x (take a xs) in
    let two = filter_one p x (take b xs) in
    let rest = more_taken p a b xs (omega (arith, le)) in
    omega (arith, one, two, rest)

pub few_more_taken : {X : Type 0} (p : X → Bool) (a b : ℕ) (xs : List X) → a ≤ b
    → length (filter p (take b xs)) + a ≤ length (filter p (take a xs)) + b
few_more_taken p zero b xs le = let few = few_taken p b xs in omega (arith, few)
few_more_taken p (suc a) zero xs le = absurd (omega (arith, le))
few_more_taken p (suc a) (suc b) [] le = omega (arith, le)
few_more_taken p (suc a) (suc b) (x ∷ xs) le =
    let one = filter_one p x (take a xs) in
    let two = filter_one p x (take b xs) in
    let rest = few_more_taken p a b xs (omega (arith, le)) in
    omega (arith, one, two, rest)

-- ---- of a row

-- with one step more
pub events_next : (s : Scenario) (d k : ℕ) (step : Step) → step_at s d k ≡ Some step
    → events_by s d (k + 1) ≡ events_by s d k + cond (is_event step) 1 0
events_next s d k step at =
    ap (λ l. length (filter is_event l)) (take_one_more (steps_in (slice_get s.rows d)) k step at)
    ∙ filter_push is_event (take k (steps_in (slice_get s.rows d))) step

pub events_few : (s : Scenario) (d k : ℕ) → events_by s d k ≤ k
events_few s d k = few_taken is_event k (steps_in (slice_get s.rows d))

pub events_order : (s : Scenario) (d a b : ℕ) → a ≤ b → events_by s d a ≤ events_by s d b
events_order s d a b le = more_taken is_event a b (steps_in (slice_get s.rows d)) le

pub events_apart : (s : Scenario) (d a b : ℕ) → a ≤ b → events_by s d b + a ≤ events_by s d a + b
events_apart s d a b le = few_more_taken is_event a b (steps_in (slice_get s.rows d)) le
