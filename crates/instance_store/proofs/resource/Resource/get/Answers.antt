use Rattle.std.proofs.Common.{None, Some, sym, ap, ◌∙◌}
use Rattle.std.specs.FinMap as fin_map
use Rattle.instance_store.proofs.TreeLaws.{get-single, get-part}
use Rattle.instance_store.proofs.resource.Resource.get.Goals as goal

pub returns-in-None : goal.returns-in-None
returns-in-None c =
    rw c.in-None.is (c.as_ref.ensures.value ∙ sym (get-single c.self.inside.single c.self.inside.parts)
    ∙ ap (λ m. fin_map.get m None) c.self.view_is)

pub returns-in-Some : goal.returns-in-Some
returns-in-Some c =
    rw c.in-Some.is (c.get.ensures ∙ sym (get-part c.self.inside.single c.self.inside.parts c.in-Some.number)
    ∙ ap (λ m. fin_map.get m (Some c.in-Some.number)) c.self.view_is)
