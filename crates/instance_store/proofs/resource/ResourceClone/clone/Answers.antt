use Rattle.std.proofs.Common.{◌≡◌, sym, ap, ◌∙◌}
use Rattle.lemmas.proofs.Lists.{same_list}
use Rattle.instance_store.specs.Tree.{resource_values}
use Rattle.instance_store.proofs.Clones.{same_table, same_value}
use Rattle.instance_store.proofs.resource.ResourceClone.clone.Goals as goal

pub returns : goal.returns
returns c =
    let h = c.in_ok-parts.ensures.cases in
    let parts : c.in_ok-parts.parts ≡ c.self.inside.parts =
    sym h.3 ∙ same_table _ same_value _ _ _ _ (same_list _ (λ x y k. k) _ _ h.4.0.0) h.4.1.0 ∙ h.2 in
    record {
      cases =
          ap (λ s. resource_values s c.in_ok-parts.parts) c.in_ok-single.ensures
          ∙ ap (resource_values c.self.inside.single) parts
          ∙ c.self.view_is;
    }
