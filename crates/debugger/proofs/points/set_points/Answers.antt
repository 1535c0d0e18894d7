use Rattle.std.proofs.Common.{None, Some, refl, ap, ◌∙◌}
use Rattle.std.proofs.lemmas.Option.{slice_get-get_or}
use Rattle.debugger.proofs.Setting.{none_set, set_end, set_more, set_same}
use Rattle.debugger.proofs.points.set_points.Goals as goal

pub loop-slot-init : goal.loop-slot-init
loop-slot-init c = none_set c.args.breaks.now c.new-points.result.items c.new-points.ensures.items

pub loop-slot-preserved-in_default : goal.loop-slot-preserved-in_default
loop-slot-preserved-in_default c =
    set_same c.args.breaks.now c.loop-slot.slot c.loop-slot.points.items c.loop-slot.invariant
    (slice_get-get_or c.args.breaks.now c.loop-slot.slot None c.loop-slot-test.true ∙ ap Some c.in_default.is)

pub loop-slot-preserved : goal.loop-slot-preserved
loop-slot-preserved c =
    set_more c.args.breaks.now c.loop-slot.slot c.loop-slot.points.items c.push.new.self.items _ c.loop-slot.invariant
    (slice_get-get_or c.args.breaks.now c.loop-slot.slot None c.loop-slot-test.true ∙ ap Some c.in-Some.is) refl
    c.in_ok-push.ensures.items

pub returns : goal.returns
returns c =
    set_end c.args.breaks.now c.loop-slot.slot c.loop-slot.points.items c.loop-slot.invariant c.loop-slot-test.false
