-- This many slots are free.
use Rattle.std.proofs.Common.{◌≡◌, replicate, None}
use Rattle.debugger.proofs.slots.no_breaks.Given as goal

abbrev pub invariant-loop-slot : goal.invariant-loop-slot
invariant-loop-slot l = l.breaks.items ≡ replicate l._slot None
