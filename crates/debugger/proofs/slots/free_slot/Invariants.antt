-- The slots before this one have breakpoints.
use Rattle.std.proofs.Common.{ℕ, ◌+◌, ◌<◌}
use Rattle.debugger.specs.Breaks.{IsTaken}
use Rattle.debugger.proofs.slots.free_slot.Given as goal

abbrev pub invariant-loop-slot : goal.invariant-loop-slot
invariant-loop-slot l = (k : ℕ) → k < l.slot → IsTaken l.breaks (k + 1)
