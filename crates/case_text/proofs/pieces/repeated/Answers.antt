use Rattle.std.specs.List.{repeat}
use Rattle.case_text.proofs.Parts.{again}
use Rattle.case_text.proofs.pieces.repeated.Goals as goal

pub loop-left-preserved : goal.loop-left-preserved
loop-left-preserved c =
    rw c.in_ok-extend_from_slice.ensures.items
    (again c.loop-left.all.items c.args.bytes.now (repeat c.args.times c.args.bytes.now) c.loop-left.left
    c.loop-left-test.true c.loop-left.invariant)
