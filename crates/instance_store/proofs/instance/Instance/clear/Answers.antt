use Rattle.std.proofs.Common.{eqb, not, ap, ◌∙◌}
use Rattle.std.specs.FinMap as fin_map
use Rattle.instance_store.specs.Tree.{instance_values}
use Rattle.instance_store.proofs.TreeLaws.{HoldValues-remove, remove_resource}
use Rattle.instance_store.proofs.instance.Instance.clear.Goals as goal

pub invariant_of-self : goal.invariant_of-self
invariant_of-self c =
    rw c.remove.ensures (HoldValues-remove c.self.inside.resources c.args.resource c.self.invariant)

pub returns-clause-values : goal.returns-clause-values
returns-clause-values c =
    ap instance_values c.remove.ensures
    ∙ remove_resource c.self.inside.resources c.args.resource
    ∙ ap (λ m. fin_map.retain_keys m (λ k. not (eqb k.0 c.args.resource))) c.self.view_is
