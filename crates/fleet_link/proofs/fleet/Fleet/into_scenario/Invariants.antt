-- There is a row for each device so far; the others are still to come.
use Rattle.std.proofs.Common.{◌≡◌, ◌++◌, length}
use Rattle.std.specs.Vec.Iter.{into_iter_items, into_iter_len}
use Rattle.fleet_link.proofs.Rows.{AreSaved}
use Rattle.fleet_link.proofs.fleet.Fleet.into_scenario.Given as goal

abbrev pub invariant-loop-slot : goal.invariant-loop-slot
invariant-loop-slot l = record {
  left : l.yielded ++ into_iter_items l.slot-iterator ≡ into_iter_items l.initial.slot-iterator;
  count : into_iter_len l.slot-iterator ≡ length (into_iter_items l.slot-iterator);
  saved : AreSaved l.scenario l.yielded l.saved l.device;
}
