-- The devices before the index are counted.
use Rattle.std.proofs.Common.{◌≡◌, ◌≤◌, count_by, not, take}
use Rattle.fleet_link.proofs.fleet.Fleet.cut_rows.Given as goal

abbrev pub invariant-loop-slot : goal.invariant-loop-slot
invariant-loop-slot l = record {
  counted : l.cut ≡ count_by (λ slot. not slot.recording.complete) (take l.slot-index l.self.slots.items);
  few : l.cut ≤ l.slot-index;
}
