use Rattle.std.proofs.Common.{◌≡◌, length}
use Rattle.shared_trace.specs.Kept.{AreParked}
use Rattle.shared_trace.proofs.start.start_stations.Given as goal

abbrev pub invariant-loop-device : goal.invariant-loop-device
invariant-loop-device l = (length l.stations.items ≡ l.device) × AreParked l.scenario l.stations.items
