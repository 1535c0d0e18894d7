-- There are the steps so far that are no datagrams.
use Rattle.std.proofs.Common.{◌≡◌, filter, take}
use Rattle.fleet_link.specs.Playing.{is_own}
use Rattle.fleet_link.proofs.row.own_steps.Given as goal

abbrev pub invariant-loop-step : goal.invariant-loop-step
invariant-loop-step l = l.own.items ≡ filter is_own (take l.step-index l.steps)
