-- No breakpoint holds at a place so far, and the copies and the values that they watch are as they are here.
use Rattle.std.proofs.Common.{length, take}
use Rattle.debugger.specs.Searches.{AreNowhere, AreStill, AreWatched, AreWatching}
use Rattle.debugger.proofs.search.first_stop.Given as goal

abbrev pub invariant-loop-index : goal.invariant-loop-index
invariant-loop-index l = record {
  watched : AreWatched l.scenario (take l.index l.entries) l.watched.items;
  own : AreWatching l.watched.items (length l.devices) (length l.points) l.points;
  still : AreStill l.scenario l.entries l.devices l.index l.points;
  nowhere : AreNowhere l.scenario l.entries l.points l.from l.index;
}
