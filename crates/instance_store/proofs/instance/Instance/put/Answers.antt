use Rattle.std.proofs.Common.{◌<◌, not, is_some, subst, sym, ap, ◌∙◌}
use Rattle.std.specs.FinMap as fin_map
use Rattle.instance_store.specs.Tree.{at_part, instance_values, HoldValues}
use Rattle.instance_store.proofs.Answers.{ok_then, err_then, if_ok_then, either_way}
use Rattle.instance_store.proofs.TreeLaws.{HoldValues-insert, not_empty-insert, put_some, put_none, get_some, get_none}
use Rattle.instance_store.proofs.TreeLaws.{insert_same}
use Rattle.instance_store.proofs.instance.Instance.put.Goals as goal

pub invariant_of-self : goal.invariant_of-self
invariant_of-self c =
    let held = c.in-Some.held.now in
    HoldValues-insert c.self.inside.resources c.args.resource c.put.new.self c.self.invariant
    (either_way c.put.result _ _ _ c.put.ensures.ok c.put.ensures.err
    (λ e. subst (λ m. 0 < fin_map.len m) (sym e) (not_empty-insert held c.args.part c.args.value))
    (λ e. subst (λ m. 0 < fin_map.len m) (sym e) (c.self.invariant c.args.resource held (sym c.in-Some.ensures.value))))

pub returns-in-Some-clause-ok : goal.returns-in-Some-clause-ok
returns-in-Some-clause-ok c =
    let held = c.in-Some.held.now in
    ok_then c.put.result _ _ c.put.ensures.ok (λ e.
    ap (λ m. instance_values (fin_map.insert c.self.inside.resources c.args.resource m)) e
    ∙ put_some c.self.inside.resources c.args.resource c.args.part c.args.value held (sym c.in-Some.ensures.value)
    ∙ ap (λ m. fin_map.insert m (at_part c.args.resource c.args.part) c.args.value) c.self.view_is)

pub returns-in-Some-clause-added : goal.returns-in-Some-clause-added
returns-in-Some-clause-added c =
    if_ok_then c.put.result _ _ c.put.ensures.added (λ b e.
    e ∙ ap (λ o. not (is_some o)) (sym (get_some c.self.inside.resources c.args.resource c.args.part c.in-Some.held.now
    (sym c.in-Some.ensures.value))
    ∙ ap (λ m. fin_map.get m (at_part c.args.resource c.args.part)) c.self.view_is))

pub returns-in-Some-clause-may_lack_memory : goal.returns-in-Some-clause-may_lack_memory
returns-in-Some-clause-may_lack_memory c = λ h.
    ap (λ m. fin_map.get m (at_part c.args.resource c.args.part)) (sym c.self.view_is)
    ∙ get_some c.self.inside.resources c.args.resource c.args.part c.in-Some.held.now (sym c.in-Some.ensures.value)
    ∙ c.put.ensures.may_lack_memory h

pub returns-in-Some-clause-err : goal.returns-in-Some-clause-err
returns-in-Some-clause-err c =
    err_then c.put.result _ _ c.put.ensures.err (λ e.
    ap (λ m. instance_values (fin_map.insert c.self.inside.resources c.args.resource m)) e
    ∙ ap instance_values (insert_same c.self.inside.resources c.args.resource c.in-Some.held.now
    (sym c.in-Some.ensures.value))
    ∙ c.self.view_is)

pub returns-in_err-held-in-None-clause-may_lack_memory : goal.returns-in_err-held-in-None-clause-may_lack_memory
returns-in_err-held-in-None-clause-may_lack_memory c = λ h.
    ap (λ m. fin_map.get m (at_part c.args.resource c.args.part)) (sym c.self.view_is)
    ∙ get_none c.self.inside.resources c.args.resource c.args.part (sym c.in-None.ensures.value)

pub invariant_of-self-in-None : goal.invariant_of-self-in-None
invariant_of-self-in-None c =
    either_way c.insert.result _ _ _ c.insert.ensures.ok c.insert.ensures.err
    (λ e. subst (λ t. HoldValues t) (sym e)
    (HoldValues-insert c.self.inside.resources c.args.resource c.in_ok-held-in-None.held c.self.invariant
    (subst (λ m. 0 < fin_map.len m) (sym c.in_ok-held-in-None.ensures)
    (not_empty-insert fin_map.empty c.args.part c.args.value))))
    (λ e. subst (λ t. HoldValues t) (sym e) c.self.invariant)

pub returns-in_ok-held-in-None-clause-ok : goal.returns-in_ok-held-in-None-clause-ok
returns-in_ok-held-in-None-clause-ok c =
    ok_then c.insert.result _ _ c.insert.ensures.ok (λ e.
    ap instance_values e
    ∙ ap (λ m. instance_values (fin_map.insert c.self.inside.resources c.args.resource m)) c.in_ok-held-in-None.ensures
    ∙ put_none c.self.inside.resources c.args.resource c.args.part c.args.value (sym c.in-None.ensures.value)
    ∙ ap (λ m. fin_map.insert m (at_part c.args.resource c.args.part) c.args.value) c.self.view_is)

pub returns-in_ok-held-in-None-clause-added : goal.returns-in_ok-held-in-None-clause-added
returns-in_ok-held-in-None-clause-added c =
    if_ok_then c.insert.result _ _ c.insert.ensures.added (λ b e.
    e
    ∙ ap (λ o. not (is_some o)) (sym c.in-None.ensures.value)
    ∙ ap (λ o. not (is_some o)) (sym (get_none c.self.inside.resources c.args.resource c.args.part
    (sym c.in-None.ensures.value))
    ∙ ap (λ m. fin_map.get m (at_part c.args.resource c.args.part)) c.self.view_is))

pub returns-in_ok-held-in-None-clause-may_lack_memory : goal.returns-in_ok-held-in-None-clause-may_lack_memory
returns-in_ok-held-in-None-clause-may_lack_memory c = λ h.
    ap (λ m. fin_map.get m (at_part c.args.resource c.args.part)) (sym c.self.view_is)
    ∙ get_none c.self.inside.resources c.args.resource c.args.part (sym c.in-None.ensures.value)
