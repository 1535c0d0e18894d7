use Rattle.device_template.proofs.Building.{by_nothing}
use Rattle.device_template.proofs.template.Template.new.Goals as goal

pub invariant_of-result : goal.invariant_of-result
invariant_of-result c = by_nothing _ _ _ c.new.ensures c.in_ok-base.ensures c.new-2.ensures
