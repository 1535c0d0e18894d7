use Rattle.std.proofs.Common.{sym, ap, ◌∙◌}
use Rattle.std.specs.FinMap as map
use Rattle.lemmas.proofs.Results.{on_err}
use Rattle.instance_store.specs.Tree.{tree, stored_from}
use Rattle.instance_store.proofs.StoreLaws.{tree-insert, tree-new, add-stored, none_there}
use Rattle.instance_store.proofs.TreeLaws.{insert_same}
use Rattle.instance_store.proofs.objects.add_instance.Goals as goal

pub returns-in_err-insert-in-Some-clause-err : goal.returns-in_err-insert-in-Some-clause-err
returns-in_err-insert-in-Some-clause-err c =
    on_err c.from_residual.result _ (
    ap (λ x. stored_from (map.insert c.args.objects.now c.args.at.object x)) c.in_err-insert-in-Some.ensures.err
    ∙ ap stored_from (insert_same c.args.objects.now c.args.at.object c.in-Some.object.now
    (sym c.in-Some.ensures.value)))

pub returns-in_ok-insert-in-Some-clause-ok : goal.returns-in_ok-insert-in-Some-clause-ok
returns-in_ok-insert-in-Some-clause-ok c =
    let o = c.args.objects.now in
    let at = c.args.at in
    add-stored o (map.insert o at.object c.insert.new.self) at (none_there o at c.requires)
    (ap (λ x. tree (map.insert o at.object x)) c.in_ok-insert-in-Some.ensures.ok
    ∙ tree-insert o at.object at.instance c.in-Some.object.now c.new.result (sym c.in-Some.ensures.value)
    ∙ ap (map.insert (tree o) at) c.new.ensures)

pub returns-in_ok-insert-in-None-2-clause-ok : goal.returns-in_ok-insert-in-None-2-clause-ok
returns-in_ok-insert-in-None-2-clause-ok c =
    let o = c.args.objects.now in
    let at = c.args.at in
    add-stored o c.insert-in-None-2.new.self at (none_there o at c.requires)
    (ap tree (c.in_ok-insert-in-None-2.ensures.ok
    ∙ ap (map.insert o at.object) (c.in_ok-insert-in-None.ensures.ok
    ∙ ap (λ t. map.insert t at.instance c.new-in-None.result) c.new-object.ensures))
    ∙ tree-new o at.object at.instance c.new-in-None.result (sym c.in-None.ensures.value)
    ∙ ap (map.insert (tree o) at) c.new-in-None.ensures)
