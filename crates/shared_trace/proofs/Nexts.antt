-- What a device's next step asks for, and what the scenario says of it.
use Rattle.std.proofs.Common.{◌≡◌, ℕ, ◌<◌, ◌≤◌, nat_lt, nat_le, ◌⊎◌, inl, inr, true, false, not, List, length}
use Rattle.std.proofs.Common.{Some, slice_get, refl, sym, ap, ◌∙◌}
use Rattle.std.proofs.lemmas.Bool.{lt-ltb, le-ltb, cases_lt}
use Rattle.std.proofs.lemmas.Option.{slice_get_past}
use Rattle.lemmas.proofs.Lists.{item_at}
use Rattle.scenario_image.specs.declared.step.Step.{Step}
use Rattle.scenario_image.specs.declared.step.Step.TheVariants as step
use Rattle.scenario_image.specs.Scenario.{Scenario}
use Rattle.trace_file.specs.declared.entry.Entry.{Entry}
use Rattle.fleet_core.specs.Next.{next_of, may_pass}
use Rattle.fleet_core.specs.Run.{steps_in, step_at, made_by, posts_of, is_enabled}
use Rattle.fleet_core.specs.Waiting.{is_waiting}
use Rattle.fleet_core.specs.declared.next.Next.{Next}
use Rattle.fleet_core.specs.declared.next.Next.TheVariants.{End, Free, Waits}
use Rattle.device_stations.specs.Stations.{is_end}

pub next_same : (p q : ℕ → ℕ) (n : Next) → ((g : ℕ) → p g ≡ q g) → may_pass p n ≡ may_pass q n
next_same p q End h = refl
next_same p q Free h = refl
next_same p q (Waits group count) h = ap (λ k. nat_le count k) (h group)

-- whether a device can step, by a table of the posts and by what is kept of its next step
pub pass_enabled : (s : Scenario) (es : List Entry) (d : ℕ) (p : ℕ → ℕ) (n : Next) → ((g : ℕ) → p g ≡ posts_of s g es)
    → n ≡ next_of (step_at s d (made_by d es))
    → may_pass p n ≡ is_enabled s es d
pass_enabled s es d p n posts next =
    next_same p (λ g. posts_of s g es) n posts ∙ ap (may_pass (λ g. posts_of s g es)) next

left_here : (x : Step) → true ≡ not (is_end (next_of (Some x)))
left_here (step.Event event) = refl
left_here (step.Post group) = refl
left_here (step.Need group count) = refl

left_by : (xs : List Step) (k : ℕ) → (k < length xs) ⊎ (length xs ≤ k)
    → nat_lt k (length xs) ≡ not (is_end (next_of (slice_get xs k)))
left_by xs k (inl h) =
    let found = item_at xs k h in
    lt-ltb k (length xs) h ∙ (left_here found.0 ∙ ap (λ o. not (is_end (next_of o))) (sym found.1))
left_by xs k (inr h) = le-ltb k (length xs) h ∙ ap (λ o. not (is_end (next_of o))) (sym (slice_get_past xs k h))

-- whether a row is not at its end
pub waiting_is : (s : Scenario) (es : List Entry) (d : ℕ)
    → is_waiting s es d ≡ not (is_end (next_of (step_at s d (made_by d es))))
waiting_is s es d =
    let xs = steps_in (slice_get s.rows d) in left_by xs (made_by d es) (cases_lt (made_by d es) (length xs))

pub past_waiting : (s : Scenario) (es : List Entry) (d : ℕ) → length s.rows ≤ d → is_waiting s es d ≡ false
past_waiting s es d past =
    waiting_is s es d ∙ ap (λ o. not (is_end (next_of (slice_get (steps_in o) (made_by d es)))))
    (slice_get_past s.rows d past)
