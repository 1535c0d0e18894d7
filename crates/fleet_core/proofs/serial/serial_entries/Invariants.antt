-- The entries so far are always the lowest; each turn makes a step, or is that of a device that can't and gives way to
-- one that can.
use Rattle.fleet_core.proofs.Lowest.{IsOnWay, distance}
use Rattle.fleet_core.proofs.serial.serial_entries.Given as goal

abbrev pub invariant-turns : goal.invariant-turns
invariant-turns l = IsOnWay l.scenario l.low l.roster l.fleet

abbrev pub decreases-turns : goal.decreases-turns
decreases-turns l = distance l.scenario l.low l.fleet
