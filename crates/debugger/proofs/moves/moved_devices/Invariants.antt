-- The devices of the entries so far are moved, and the events that they took are counted.
use Rattle.std.proofs.Common.{◌≡◌}
use Rattle.debugger.proofs.Passing.{AreFound, steps_by}
use Rattle.debugger.proofs.moves.moved_devices.Given as goal

abbrev pub invariant-loop-index : goal.invariant-loop-index
invariant-loop-index l = record {
  found : AreFound l.scenario l.entries l.to l.first l.index l.moved.items;
  steps : l.steps ≡ steps_by l.scenario l.entries l.from l.to l.first l.index;
}
