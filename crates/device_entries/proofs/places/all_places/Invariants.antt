-- The entries so far have their places.
use Rattle.std.proofs.Common.{◌≡◌, length}
use Rattle.device_entries.specs.Places.{ArePlaced}
use Rattle.device_entries.proofs.places.all_places.Given as goal

abbrev pub invariant-loop-index : goal.invariant-loop-index
invariant-loop-index l = record {
  count : length l.places.items ≡ length l.scenario.rows;
  placed : ArePlaced l.entries l.index l.places.items;
}
