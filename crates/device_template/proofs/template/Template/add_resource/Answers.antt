use Rattle.std.proofs.Common.{arith}
use Rattle.device_template.proofs.Building.{by_resource}
use Rattle.device_template.proofs.template.Template.add_resource.Goals as goal

pub invariant_of-self-2 : goal.invariant_of-self-2
invariant_of-self-2 c =
    by_resource _ _ _ _ _ c.args.object c.args.definition c.add_resource.result c.in_ok-add_resource.field-0
    (omega arith) c.self.invariant c.in_ok-add_resource.was c.add_resource.ensures.refuses
    c.in_ok-add_resource.ensures.added
