use Rattle.std.proofs.Common.{is_some, sym, ap, ◌∙◌}
use Rattle.instance_store.specs.Stored.{has_instance}
use Rattle.instance_store.proofs.StoreLaws.{has-tree}
use Rattle.instance_store.proofs.store.Store.has_instance.Goals as goal

pub returns-in-Some : goal.returns-in-Some
returns-in-Some c =
    ap is_some c.in-Some.ensures
    ∙ sym (has-tree c.self.inside.objects c.args.place)
    ∙ ap (λ s. has_instance s c.args.place) c.self.view_is

pub returns-in-None : goal.returns-in-None
returns-in-None c =
    ap is_some c.in-None.ensures
    ∙ sym (has-tree c.self.inside.objects c.args.place)
    ∙ ap (λ s. has_instance s c.args.place) c.self.view_is
