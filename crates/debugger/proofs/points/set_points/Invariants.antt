-- The breakpoints of the slots so far are listed.
use Rattle.debugger.specs.Searches.{AreSet}
use Rattle.debugger.proofs.points.set_points.Given as goal

abbrev pub invariant-loop-slot : goal.invariant-loop-slot
invariant-loop-slot l = AreSet l.breaks l.slot l.points.items
