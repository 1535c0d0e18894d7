-- There is what is held of each device whose row is before this one.
use Rattle.fleet_core.proofs.Holding.{AreBegun}
use Rattle.fleet_core.proofs.held.held_of_rows.Given as goal

abbrev pub invariant-loop-device : goal.invariant-loop-device
invariant-loop-device l = AreBegun l.scenario l.device l.devices.items
