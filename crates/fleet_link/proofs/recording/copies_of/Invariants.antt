-- There are copies of the steps so far.
use Rattle.std.proofs.Common.{◌≡◌, take}
use Rattle.fleet_link.proofs.recording.copies_of.Given as goal

abbrev pub invariant-loop-step : goal.invariant-loop-step
invariant-loop-step l = l.copies.items ≡ take l.step-index l.steps
