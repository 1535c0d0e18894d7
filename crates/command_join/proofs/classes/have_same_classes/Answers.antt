use Rattle.std.proofs.Common.{rules, sym}
use Rattle.command_join.proofs.Alike.{one_more}
use Rattle.command_join.proofs.classes.have_same_classes.Goals as goal

pub loop-place-preserved : goal.loop-place-preserved
loop-place-preserved c =
    let at = c.in-Some-Some in
    one_more c.args.a.now.classes c.args.b.now.classes c.loop-place.place at.one.now at.other.now c.loop-place.invariant
    (sym at.ensures) (sym at.ensures') (c.in_ok-is_same_class.ensures.0 (search rules))
