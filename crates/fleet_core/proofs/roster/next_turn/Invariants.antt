-- It is the turn of a device that cannot step, and the queue gets smaller.
use Rattle.std.proofs.Common.{◌≡◌, false}
use Rattle.fleet_core.specs.Run.{is_enabled}
use Rattle.fleet_core.specs.Roster.{IsOnTurn, queue_size}
use Rattle.fleet_core.proofs.roster.next_turn.Given as goal

abbrev pub invariant-devices : goal.invariant-devices
invariant-devices l = record {
  blocked : is_enabled l.fleet.scenario l.fleet.entries l.passed ≡ false;
  turn : IsOnTurn l.fleet.scenario l.fleet.entries l.roster l.passed;
}

abbrev pub decreases-devices : goal.decreases-devices
decreases-devices l = queue_size l.roster
