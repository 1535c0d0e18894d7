-- There is the device of each row before this one.
use Rattle.std.proofs.Common.{length}
use Rattle.fleet_link.specs.Recorded.{share_of}
use Rattle.fleet_link.specs.Serving.{AreRecorded, AreRepeated, HaveShare}
use Rattle.fleet_link.proofs.Started.{AreFirst}
use Rattle.fleet_link.proofs.fleet.Fleet.start_rows.Given as goal

abbrev pub invariant-loop-device : goal.invariant-loop-device
invariant-loop-device l = record {
  first : AreFirst l.scenario l.played l.device l.slots.items;
  recorded : AreRecorded l.slots.items;
  repeated : AreRepeated l.slots.items l.repeated;
  shares : HaveShare l.slots.items (share_of (length l.scenario.rows) l.saved);
}
