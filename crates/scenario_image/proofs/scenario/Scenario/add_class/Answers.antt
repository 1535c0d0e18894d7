use Rattle.std.proofs.Common.{sym, ◌∙◌}
use Rattle.scenario_image.proofs.Valid.{by_class}
use Rattle.scenario_image.proofs.scenario.Scenario.add_class.Goals as goal

pub invariant_of-self-2 : goal.invariant_of-self-2
invariant_of-self-2 c =
    by_class _ _ _ c.args.self.now c.args.class c.self.invariant c.self.view_is
    (sym c.class_fault.ensures ∙ c.in_default.is) c.in_ok-push.ensures.items
