use Rattle.std.proofs.Common.{below_more}
use Rattle.debugger.proofs.Numbers.{slot_here}
use Rattle.debugger.proofs.slots.free_slot.Goals as goal

pub loop-slot-preserved : goal.loop-slot-preserved
loop-slot-preserved c =
    below_more _ _ c.loop-slot.invariant (slot_here c.args.breaks.now c.loop-slot.slot c.loop-slot-test.true
    c.if-is_none.ensures)
