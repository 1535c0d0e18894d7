-- The second is that before the step at the place.
use Rattle.std.proofs.Common.{◌≡◌, take}
use Rattle.std.specs.List.{sum_by}
use Rattle.trace_text.specs.Seconds.{step_seconds}
use Rattle.trace_text.proofs.clock.second_from.Given as goal

abbrev pub invariant-loop-at : goal.invariant-loop-at
invariant-loop-at l = l.second ≡ sum_by step_seconds (take l.at l.steps)
