use Rattle.device_template.proofs.Building.{by_object}
use Rattle.device_template.proofs.template.Template.add_object.Goals as goal

pub invariant_of-self-2 : goal.invariant_of-self-2
invariant_of-self-2 c =
    by_object _ _ _ _ _ c.args.id c.add_vendor.result c.in_ok-add_vendor.field-0 c.self.invariant c.in_ok-add_vendor.was
    c.add_vendor.ensures.refuses c.in_ok-add_vendor.ensures.added
