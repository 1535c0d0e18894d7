-- The lines of a step's reason.
use Rattle.std.proofs.Common.{◌≡◌, ◌≤◌, ℕ, List, [], subst, sym, arith}
use Rattle.std.specs.Prelude.{Result, Ok, Err, IfOk, Option, None, Some, slice_get}
use Rattle.std.proofs.lemmas.Option.{slice_get_within}
use Rattle.device_machine.specs.State.{Device, Machine, Shows}
use Rattle.scenario_image.specs.Scenario.{Scenario}
use Rattle.scenario_image.specs.Play.{state_at}
use Rattle.scenario_image.specs.declared.step.Step.{Step}
use Rattle.fleet_core.specs.Board.{ShowsAfter}
use Rattle.fleet_core.specs.Run.{step_at, steps_in}
use Rattle.trace_reasons.specs.Text.{AreReasonLines}
use Rattle.command_lint.specs.History.{step_count}
use Rattle.command_lint.specs.Reasons.{AreLinesOf, AreReasonsAt}

-- past the last step
pub no_step : (s : Scenario) (d k : ℕ) (lines : List ℕ) → step_at s d k ≡ None → lines ≡ [] → AreReasonsAt s d k lines
no_step s d k lines none is =
    λ class steps row. subst (λ o. AreLinesOf (state_at class steps k) o lines) (sym none) is

-- a step is within the row
pub step_within : (s : Scenario) (d k : ℕ) (step : Step) → step_at s d k ≡ Some step → k ≤ step_count s d
step_within s d k step at =
    let within = slice_get_within (steps_in (slice_get s.rows d)) k step at in
    omega (arith, within)

-- of a step that the device makes next
pub of_step : {T E : Type 0} (r : Result T E) (words : T → List ℕ) (s : Scenario) (d k : ℕ) (step : Step) (x : Device)
    → step_at s d k ≡ Some step → ShowsAfter s d k x
    → ((f : Machine) → Shows x f → IfOk r (λ lines. AreReasonLines f step (words lines)))
    → IfOk r (λ lines. AreReasonsAt s d k (words lines))
of_step (Ok lines) words s d k step x at shows why =
    λ class steps row. subst (λ o. AreLinesOf (state_at class steps k) o (words lines)) (sym at)
    (why (state_at class steps k) (shows class steps row))
of_step (Err e) words s d k step x at shows why = tt
