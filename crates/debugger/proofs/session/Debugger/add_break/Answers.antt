use Rattle.std.proofs.Common.{Some, refl}
use Rattle.debugger.proofs.Keeping.{inside_is, kept_break, iff_yes, iff_no, added_is, all_is, not_all_is}
use Rattle.debugger.proofs.session.Debugger.add_break.Goals as goal

pub returns-in-None-clause-full : goal.returns-in-None-clause-full
returns-in-None-clause-full c =
    iff_yes refl (all_is c.as_slice.result.now
    (inside_is c.args.self.now c.self.inside.replayed c.self.invariant c.self.view_is)
    c.as_slice.ensures.value c.in-None.ensures.none)

pub returns-in-Some-clause-full : goal.returns-in-Some-clause-full
returns-in-Some-clause-full c =
    iff_no (λ h. cc) (not_all_is c.as_slice.result.now c.in-Some.slot
    (inside_is c.args.self.now c.self.inside.replayed c.self.invariant c.self.view_is)
    c.as_slice.ensures.value c.in-Some.ensures.free)

pub returns-in-Some-clause-added : goal.returns-in-Some-clause-added
returns-in-Some-clause-added c =
    added_is c.as_slice.result.now c.in-Some.slot c.args.point
    (inside_is c.args.self.now c.self.inside.replayed c.self.invariant c.self.view_is)
    c.as_slice.ensures.value c.in-Some.ensures.free c.in-Some.ensures.least

pub invariant_of-self : goal.invariant_of-self
invariant_of-self c = kept_break _ _ _ c.in-Some.slot (Some c.args.point) c.self.invariant
