use Rattle.std.proofs.Common.{sym, ap, ◌∙◌}
use Rattle.instance_store.specs.Stored.{has_instance, without_instance}
use Rattle.instance_store.proofs.StoreLaws.{removed_again}
use Rattle.instance_store.proofs.store.Store.add_instance.Goals as goal

pub returns-clause-removal : goal.returns-clause-removal
returns-clause-removal c =
    ap (λ s. without_instance s c.args.place) c.in_ok-add_instance.ensures.ok
    ∙ removed_again c.self.inside.objects c.args.place
    (ap (λ s. has_instance s c.args.place) c.self.view_is ∙ sym c.has_instance.ensures ∙ c.if-has_instance.false)
    ∙ c.self.view_is
