-- The breakpoints so far have their copies.
use Rattle.std.proofs.Common.{length}
use Rattle.debugger.specs.Searches.{AreCopiesOf, AreWatching}
use Rattle.debugger.proofs.watches.watch_devices.Given as goal

abbrev pub invariant-loop-one : goal.invariant-loop-one
invariant-loop-one l = record {
  copies : AreCopiesOf l.devices l.watched.items;
  all : AreWatching l.watched.items (length l.devices) l.one-index l.points;
}
