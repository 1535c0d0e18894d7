use Rattle.std.proofs.Common.{sym, ◌∙◌, arith}
use Rattle.device_template.proofs.Building.{by_instance}
use Rattle.device_template.proofs.template.Template.add_instance.Goals as goal

pub invariant_of-self : goal.invariant_of-self
invariant_of-self c =
    by_instance _ _ _ _ _ c.args.self.now (record { object = c.args.object; instance = c.args.instance })
    c.add_instance.result (omega arith) c.self.invariant c.self.view_is
    (sym c.instance_fault.ensures ∙ c.in_default.is) c.add_instance.ensures.ok c.add_instance.ensures.unchanged
