use Rattle.std.proofs.Common.{None, ap, ◌∙◌}
use Rattle.instance_store.specs.Tree.{resource_values}
use Rattle.instance_store.proofs.TreeLaws.{resource-empty}
use Rattle.instance_store.proofs.resource.Resource.new.Goals as goal

pub returns : goal.returns
returns c = ap (resource_values None) c.new.ensures ∙ resource-empty
