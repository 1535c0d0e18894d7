use Rattle.std.proofs.Common.{◌≡◌, None, Some, not, is_some, sym, ap, ◌∙◌}
use Rattle.std.specs.FinMap as fin_map
use Rattle.lemmas.proofs.Tests.{negated}
use Rattle.instance_store.specs.Tree.{resource_values}
use Rattle.instance_store.proofs.Answers.{ok_then, if_ok_then}
use Rattle.instance_store.proofs.TreeLaws.{get-single, get-part, resource-single, resource-part}
use Rattle.instance_store.proofs.resource.Resource.put.Goals as goal

-- the part of the number
there : (c : goal.After-insert)
    → fin_map.get c.args.self.now (Some c.in-Some.number) ≡ fin_map.get c.self.inside.parts c.in-Some.number
there c =
    ap (λ m. fin_map.get m (Some c.in-Some.number)) (sym c.self.view_is)
    ∙ get-part c.self.inside.single c.self.inside.parts c.in-Some.number

pub returns-in-None-clause-ok : goal.returns-in-None-clause-ok
returns-in-None-clause-ok c =
    rw c.in-None.is (resource-single c.self.inside.single c.self.inside.parts c.args.value
    ∙ ap (λ m. fin_map.insert m None c.args.value) c.self.view_is)

pub returns-in-None-clause-added : goal.returns-in-None-clause-added
returns-in-None-clause-added c =
    rw c.in-None.is (negated c.is_none-added.result (is_some c.self.inside.single) c.is_none-added.ensures
    ∙ ap (λ o. not (is_some o)) (sym (get-single c.self.inside.single c.self.inside.parts)
    ∙ ap (λ m. fin_map.get m None) c.self.view_is))

pub returns-in-Some-clause-ok : goal.returns-in-Some-clause-ok
returns-in-Some-clause-ok c =
    rw c.in-Some.is (ok_then c.insert.result _ _ c.insert.ensures.ok (λ e.
    ap (resource_values c.self.inside.single) e
    ∙ resource-part c.self.inside.single c.self.inside.parts c.in-Some.number c.args.value
    ∙ ap (λ m. fin_map.insert m (Some c.in-Some.number) c.args.value) c.self.view_is))

pub returns-in-Some-clause-added : goal.returns-in-Some-clause-added
returns-in-Some-clause-added c =
    rw c.in-Some.is (if_ok_then c.insert.result _ _ c.insert.ensures.added (λ b e.
    e ∙ ap (λ o. not (is_some o)) (sym (there c))))

pub returns-in-Some-clause-may_lack_memory : goal.returns-in-Some-clause-may_lack_memory
returns-in-Some-clause-may_lack_memory c = λ h. rw c.in-Some.is (there c ∙ c.insert.ensures.may_lack_memory h)
