-- What the text of a run shows.
use Rattle.std.proofs.Common.{◌≡◌, ℕ, suc, ◌+◌, List, [], ◌∷◌, ◌++◌, take, drop, Some, slice_get, refl, sym}
use Rattle.std.proofs.Common.{ap, subst, ◌∙◌, arith}
use Rattle.std.specs.List.{sum_by}
use Rattle.std.proofs.lemmas.List.{take-append-drop}
use Rattle.std.proofs.lemmas.List.Sums.{sum_by-cons}
use Rattle.lemmas.proofs.Lists.{take_next}
use Rattle.device_template.specs.Template.{Template}
use Rattle.device_machine.specs.State.{Machine}
use Rattle.device_machine.specs.declared.event.Event.TheVariants.{Recv, Put, Firmware, Tick}
use Rattle.scenario_image.specs.declared.step.Step.{Step}
use Rattle.scenario_image.specs.declared.step.Step.TheVariants.{Event, Post, Need}
use Rattle.scenario_image.specs.Scenario.{Scenario}
use Rattle.scenario_image.specs.Play.{start, step_after, state_after, state_at, IsRowOf}
use Rattle.trace_file.specs.declared.entry.Entry.{Entry}
use Rattle.fleet_core.specs.Run.{steps_in, Fits, IsRun}
use Rattle.fleet_core.proofs.Clock.{recv_clock, put_clock, firmware_clock}
use Rattle.fleet_core.proofs.Posts.{run_left, run_last}
use Rattle.trace_text.specs.Seconds.{second_at, step_seconds}

-- an entry of a run follows those before it
pub follows : (s : Scenario) (es : List Entry) (n : ℕ) (e : Entry) → IsRun s es → slice_get es n ≡ Some e
    → Fits s (take n es) e
follows s es n e run at =
    let whole : take (suc n) es ++ drop (suc n) es ≡ es = take-append-drop (suc n) es in
    let front : IsRun s (take (suc n) es) =
    run_left s (take (suc n) es) (drop (suc n) es) (subst (IsRun s) (sym whole) run) in
    run_last s (take n es) e (subst (IsRun s) (take_next es n e at) front)

-- a step sets the clock on by its seconds
step_clock : (f : Machine) (step : Step) → (step_after f step).kept.clock ≡ f.kept.clock + step_seconds step
step_clock f (Event (Recv server bytes)) = recv_clock f server bytes ∙ omega arith
step_clock f (Event (Put path value)) = put_clock f path value ∙ omega arith
step_clock f (Event (Firmware code)) = firmware_clock f code ∙ omega arith
step_clock f (Event (Tick seconds)) = refl
step_clock f (Post group) = omega arith
step_clock f (Need group count) = omega arith

clock_after : (f : Machine) (steps : List Step)
    → (state_after f steps).kept.clock ≡ f.kept.clock + sum_by step_seconds steps
clock_after f [] = omega arith
clock_after f (x ∷ xs) =
    clock_after (step_after f x) xs ∙ omega (arith, step_clock f x, sum_by-cons step_seconds x xs)

-- a device's second is that of its clock
pub second_is : (s : Scenario) (d k : ℕ) (class : Template) (steps : List Step) → IsRowOf s d class steps
    → second_at s d k ≡ (state_at class steps k).kept.clock
second_is s d k class steps row =
    let begin : (start class).kept.clock ≡ 0 = refl in
    let after = clock_after (start class) (take k steps) in
    ap (λ o. sum_by step_seconds (take k (steps_in o))) row.row ∙ omega (arith, begin, after)
