-- What a transcript keeps: for each device a place in its row, and its second there.
use Rattle.std.specs.Prelude.{◌≡◌, ℕ, List, length, take, Some, slice_get}
use Rattle.std.specs.List.{sum_by}
use Rattle.scenario_image.specs.declared.step.Step.{Step}
use Rattle.scenario_image.specs.Scenario.{Scenario}
use Rattle.fleet_core.specs.Run.{steps_in}
use Rattle.trace_text.specs.declared.clock.Clock.{Clock}
use Rattle.trace_text.specs.Seconds.{step_seconds}

-- the second is that before the step at the place
abbrev pub IsClock : List Step → Clock → Type 0
IsClock steps c = c.second ≡ sum_by step_seconds (take c.place steps)

-- there is a clock for each row
pub record AreClocks (s : Scenario) (clocks : List Clock) : Type 0 where
  pub count : length clocks ≡ length s.rows
  pub each : (d : ℕ) (c : Clock) → slice_get clocks d ≡ Some c → IsClock (steps_in (slice_get s.rows d)) c
