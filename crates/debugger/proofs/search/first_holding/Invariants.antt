-- The breakpoints so far do not hold, and the values that they watch are still the same.
use Rattle.std.proofs.Common.{◌+◌}
use Rattle.debugger.specs.Searches.{AreSilent}
use Rattle.debugger.proofs.Stopping.{FirstStill}
use Rattle.debugger.proofs.search.first_holding.Given as goal

abbrev pub invariant-loop-one : goal.invariant-loop-one
invariant-loop-one l = record {
  silent : AreSilent l.scenario l.entries (l.index + 1) l.one-index l.points;
  still : FirstStill l.scenario l.entries l.devices (l.index + 1) l.one-index l.points;
}
