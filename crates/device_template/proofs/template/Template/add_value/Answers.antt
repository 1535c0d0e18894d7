use Rattle.std.proofs.Common.{sym, ◌∙◌}
use Rattle.device_template.proofs.Building.{by_value}
use Rattle.device_template.proofs.template.Template.add_value.Goals as goal

pub invariant_of-self : goal.invariant_of-self
invariant_of-self c =
    by_value _ _ _ _ _ c.args.self.now c.in-Some.full c.args.value c.put.result c.value_fault.ensures.short
    (c.value_fault.ensures.good c.in_default-value_fault.is) c.self.invariant c.self.view_is
    (sym c.value_fault.ensures.fault ∙ c.in_default-value_fault.is) c.put.ensures.ok c.put.ensures.err
