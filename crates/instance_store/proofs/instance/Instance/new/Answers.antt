use Rattle.std.proofs.Common.{ap, ◌∙◌}
use Rattle.instance_store.specs.Tree.{instance_values}
use Rattle.instance_store.proofs.TreeLaws.{instance-empty, HoldValues-empty}
use Rattle.instance_store.proofs.instance.Instance.new.Goals as goal

pub invariant_of-result : goal.invariant_of-result
invariant_of-result c = rw c.new.ensures HoldValues-empty

pub returns : goal.returns
returns c = ap instance_values c.new.ensures ∙ instance-empty
