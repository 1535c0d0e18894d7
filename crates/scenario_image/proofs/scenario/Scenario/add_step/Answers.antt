use Rattle.std.proofs.Common.{sym, ◌∙◌}
use Rattle.scenario_image.proofs.Valid.{by_step}
use Rattle.scenario_image.proofs.scenario.Scenario.add_step.Goals as goal

pub invariant_of-self-2 : goal.invariant_of-self-2
invariant_of-self-2 c =
    by_step _ _ _ c.args.self.now c.args.step c.self.invariant c.self.view_is
    (sym c.step_fault.ensures.fault ∙ c.in_default.is)
    (c.step_fault.ensures.fields c.in_default.is) c.in_ok-push_last.ensures.ok
