use Rattle.std.proofs.Common.{sym, ◌∙◌}
use Rattle.instance_store.proofs.StoreLaws.{tree_some, tree_none}
use Rattle.instance_store.proofs.objects.find.Goals as goal

pub returns-in-Some : goal.returns-in-Some
returns-in-Some c =
    c.get-in-Some.ensures
    ∙ sym (tree_some c.args.objects.now c.args.at.object c.args.at.instance c.in-Some.object.now
    (sym c.in-Some.ensures))

pub returns-in-None : goal.returns-in-None
returns-in-None c = sym (tree_none c.args.objects.now c.args.at.object c.args.at.instance (sym c.in-None.ensures))
