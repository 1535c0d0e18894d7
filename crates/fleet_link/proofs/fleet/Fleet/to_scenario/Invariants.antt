-- There is a row for each device so far.
use Rattle.std.proofs.Common.{take}
use Rattle.fleet_link.proofs.Rows.{AreSaved}
use Rattle.fleet_link.proofs.fleet.Fleet.to_scenario.Given as goal

abbrev pub invariant-loop-slot : goal.invariant-loop-slot
invariant-loop-slot l = AreSaved l.scenario (take l.slot-index l.self.slots.items) l.saved l.device
