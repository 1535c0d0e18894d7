use Rattle.std.proofs.Common.{◌≡◌, subst, sym, ap, ◌∙◌}
use Rattle.lemmas.proofs.Lists.{same_list}
use Rattle.instance_store.specs.Tree.{HoldValues, instance_values}
use Rattle.instance_store.proofs.Clones.{same_table}
use Rattle.instance_store.proofs.instance.InstanceClone.clone.Goals as goal

same : (c : goal.In_ok-resources) → c.in_ok-resources.resources ≡ c.self.inside.resources
same c =
    let h = c.in_ok-resources.ensures.cases in
    sym h.3 ∙ same_table _ (λ x y k. k) _ _ _ _ (same_list _ (λ x y k. k) _ _ h.4.0.0) h.4.1.0 ∙ h.2

pub invariant_of-result : goal.invariant_of-result
invariant_of-result c = subst (λ t. HoldValues t) (sym (same c)) c.self.invariant

pub returns : goal.returns
returns c = record { cases = ap instance_values (same c) ∙ c.self.view_is }
