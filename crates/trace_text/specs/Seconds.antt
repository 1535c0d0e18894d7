-- The second of a device before a step of its row.
use Rattle.std.specs.Prelude.{ℕ, take, slice_get}
use Rattle.std.specs.List.{sum_by}
use Rattle.device_machine.specs.declared.event.Event.TheVariants.{Recv, Put, Firmware, Tick}
use Rattle.scenario_image.specs.declared.step.Step.{Step}
use Rattle.scenario_image.specs.declared.step.Step.TheVariants.{Event, Post, Need}
use Rattle.scenario_image.specs.Scenario.{Scenario}
use Rattle.fleet_core.specs.Run.{steps_in}

-- the seconds that pass in a step: those of a tick, in any other none
abbrev pub step_seconds : Step → ℕ
step_seconds (Event (Recv server bytes)) = 0
step_seconds (Event (Put path value)) = 0
step_seconds (Event (Firmware code)) = 0
step_seconds (Event (Tick seconds)) = seconds
step_seconds (Post group) = 0
step_seconds (Need group count) = 0

-- the second of a device before step k of its row, counted from 0: the sum of the ticks before that step
abbrev pub second_at : Scenario → ℕ → ℕ → ℕ
second_at s d k = sum_by step_seconds (take k (steps_in (slice_get s.rows d)))
