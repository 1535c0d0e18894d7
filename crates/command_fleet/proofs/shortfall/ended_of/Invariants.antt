use Rattle.std.proofs.Common.{◌≡◌, ◌≤◌, count_by, take}
use Rattle.command_fleet.specs.Fleet.{has_ended}
use Rattle.command_fleet.proofs.shortfall.ended_of.Given as goal

abbrev pub invariant-loop-place : goal.invariant-loop-place
invariant-loop-place l = (l.ended ≡ count_by has_ended (take l.place l.fn.devices)) × (l.ended ≤ l.place)
