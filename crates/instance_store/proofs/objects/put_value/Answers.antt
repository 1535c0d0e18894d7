use Rattle.std.proofs.Common.{◌≡◌, not, is_some, Some, refl, sym, ap, ◌∙◌}
use Rattle.std.specs.FinMap as map
use Rattle.std.proofs.lemmas.Result.{err_from_is_err_and}
use Rattle.lemmas.proofs.Results.{on_err}
use Rattle.object_defs.specs.declared.path.FullPath.{FullPath}
use Rattle.instance_store.specs.Stored.{has_instance}
use Rattle.instance_store.specs.Table.{TableOf}
use Rattle.instance_store.specs.Tree.{InstanceValues, Objects, tree, stored_from, place}
use Rattle.instance_store.proofs.Answers.{neither, not_untrue}
use Rattle.instance_store.proofs.StoreLaws.{tree_some, tree_none, tree-insert, put-stored, value-some}
use Rattle.instance_store.proofs.StoreLaws.{known_instance, unknown_instance}
use Rattle.instance_store.proofs.TreeLaws.{insert_same}
use Rattle.instance_store.proofs.objects.put_value.Goals as goal

-- the instance is there
found : (o : Objects) (path : FullPath) (object : TableOf InstanceValues) (instance : InstanceValues)
    → Some object ≡ map.get o path.object → Some instance ≡ map.get object path.instance
    → map.get (tree o) (place path.object path.instance) ≡ Some instance
found o path object instance h g = tree_some o path.object path.instance object (sym h) ∙ sym g

pub returns-in_ok-added-in-Some-get_mut-clause-ok : goal.returns-in_ok-added-in-Some-get_mut-clause-ok
returns-in_ok-added-in-Some-get_mut-clause-ok c =
    let there =
    found c.args.objects.now c.args.path c.in-Some.object.now c.in-Some-get_mut.instance.now c.in-Some.ensures.value
    c.in-Some-get_mut.ensures.value in
    let o = c.args.objects.now in
    let object = c.in-Some.object.now in
    let path = c.args.path in
    put-stored o (map.insert o path.object (map.insert object path.instance c.put.new.self)) path c.args.value
    c.in-Some-get_mut.instance.now there
    (tree-insert o path.object path.instance object c.put.new.self (sym c.in-Some.ensures.value)
    ∙ ap (map.insert (tree o) (place path.object path.instance)) c.in_ok-added-in-Some-get_mut.ensures.ok)

pub returns-in_ok-added-in-Some-get_mut-clause-added : goal.returns-in_ok-added-in-Some-get_mut-clause-added
returns-in_ok-added-in-Some-get_mut-clause-added c =
    let there =
    found c.args.objects.now c.args.path c.in-Some.object.now c.in-Some-get_mut.instance.now c.in-Some.ensures.value
    c.in-Some-get_mut.ensures.value in
    c.in_ok-added-in-Some-get_mut.ensures.added
    ∙ ap (λ v. not (is_some v)) (sym (value-some c.args.objects.now c.args.path c.in-Some-get_mut.instance.now
    there))

pub returns-in_ok-added-in-Some-get_mut-clause-absent : goal.returns-in_ok-added-in-Some-get_mut-clause-absent
returns-in_ok-added-in-Some-get_mut-clause-absent c =
    let there =
    found c.args.objects.now c.args.path c.in-Some.object.now c.in-Some-get_mut.instance.now c.in-Some.ensures.value
    c.in-Some-get_mut.ensures.value in
    let o = c.args.objects.now in
    let at = place c.args.path.object c.args.path.instance in
    neither (λ h. cc)
    (not_untrue (has_instance (stored_from o) at) (known_instance o at c.in-Some-get_mut.instance.now there))

pub returns-in_err-added-in-Some-get_mut-clause-absent : goal.returns-in_err-added-in-Some-get_mut-clause-absent
returns-in_err-added-in-Some-get_mut-clause-absent c =
    let there =
    found c.args.objects.now c.args.path c.in-Some.object.now c.in-Some-get_mut.instance.now c.in-Some.ensures.value
    c.in-Some-get_mut.ensures.value in
    let o = c.args.objects.now in
    let at = place c.args.path.object c.args.path.instance in
    let p = err_from_is_err_and c.from_residual.result c.from_residual.ensures.1 in
    neither (λ h. let e = sym p.1 ∙ h in let memory = p.2 in cc)
    (not_untrue (has_instance (stored_from o) at) (known_instance o at c.in-Some-get_mut.instance.now there))

pub returns-in_err-added-in-Some-get_mut-clause-may_lack_memory :
    goal.returns-in_err-added-in-Some-get_mut-clause-may_lack_memory
returns-in_err-added-in-Some-get_mut-clause-may_lack_memory c = λ h.
    let there =
    found c.args.objects.now c.args.path c.in-Some.object.now c.in-Some-get_mut.instance.now c.in-Some.ensures.value
    c.in-Some-get_mut.ensures.value in
    value-some c.args.objects.now c.args.path c.in-Some-get_mut.instance.now there
    ∙ c.in_err-added-in-Some-get_mut.ensures.may_lack_memory refl

pub returns-in_err-added-in-Some-get_mut-clause-err : goal.returns-in_err-added-in-Some-get_mut-clause-err
returns-in_err-added-in-Some-get_mut-clause-err c =
    let o = c.args.objects.now in
    let object = c.in-Some.object.now in
    let path = c.args.path in
    on_err c.from_residual.result _ (
    ap stored_from (ap (λ x. map.insert o path.object (map.insert object path.instance x))
    c.in_err-added-in-Some-get_mut.ensures.err
    ∙ ap (map.insert o path.object) (insert_same object path.instance c.in-Some-get_mut.instance.now
    (sym c.in-Some-get_mut.ensures.value))
    ∙ insert_same o path.object object (sym c.in-Some.ensures.value)))

pub returns-in-None-get_mut-clause-absent : goal.returns-in-None-get_mut-clause-absent
returns-in-None-get_mut-clause-absent c =
    let no =
    unknown_instance c.args.objects.now (place c.args.path.object c.args.path.instance)
    (tree_some c.args.objects.now c.args.path.object c.args.path.instance c.in-Some.object.now
    (sym c.in-Some.ensures.value)
    ∙ sym c.in-None-get_mut.ensures.value) in
    ((λ h. no), (λ h. refl))

pub returns-in-None-get_mut-clause-err : goal.returns-in-None-get_mut-clause-err
returns-in-None-get_mut-clause-err c =
    ap stored_from (insert_same c.args.objects.now c.args.path.object c.in-Some.object.now
    (sym c.in-Some.ensures.value))

pub returns-in-None-clause-absent : goal.returns-in-None-clause-absent
returns-in-None-clause-absent c =
    let no =
    unknown_instance c.args.objects.now (place c.args.path.object c.args.path.instance)
    (tree_none c.args.objects.now c.args.path.object c.args.path.instance (sym c.in-None.ensures.value)) in
    ((λ h. no), (λ h. refl))
