use Rattle.std.proofs.Common.{sym, ap, ◌∙◌}
use Rattle.std.specs.FinMap as map
use Rattle.instance_store.specs.Stored.{value_at}
use Rattle.instance_store.specs.Tree.{tree}
use Rattle.instance_store.proofs.StoreLaws.{value-some, value-none}
use Rattle.instance_store.proofs.store.Store.get.Goals as goal

pub returns-in-Some : goal.returns-in-Some
returns-in-Some c =
    c.get.ensures
    ∙ sym (value-some c.self.inside.objects c.args.path c.in-Some.instance.now
    (ap (map.get (tree c.self.inside.objects)) (sym c.place_above.ensures) ∙ sym c.in-Some.ensures))
    ∙ ap (λ s. value_at s c.args.path) c.self.view_is

pub returns-in-None : goal.returns-in-None
returns-in-None c =
    sym (value-none c.self.inside.objects c.args.path
    (ap (map.get (tree c.self.inside.objects)) (sym c.place_above.ensures) ∙ sym c.in-None.ensures))
    ∙ ap (λ s. value_at s c.args.path) c.self.view_is
