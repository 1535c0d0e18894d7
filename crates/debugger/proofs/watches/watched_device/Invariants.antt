-- None so far is the row's.
use Rattle.debugger.specs.Searches.{HasNoWatch}
use Rattle.debugger.proofs.watches.watched_device.Given as goal

abbrev pub invariant-loop-watch : goal.invariant-loop-watch
invariant-loop-watch l = HasNoWatch l.watched l.watch-index l.device
