use Rattle.std.proofs.Common.{sym, ap, ◌∙◌}
use Rattle.instance_store.specs.Stored.{instances_of}
use Rattle.instance_store.proofs.StoreLaws.{numbers-some, numbers-none}
use Rattle.instance_store.proofs.store.Store.instances.Goals as goal

pub returns-in-Some : goal.returns-in-Some
returns-in-Some c =
    c.numbers.ensures
    ∙ sym (numbers-some c.self.inside.objects c.args.object c.in-Some.instances.now (sym c.in-Some.ensures))
    ∙ ap (λ s. instances_of s c.args.object) c.self.view_is

pub returns-in-None : goal.returns-in-None
returns-in-None c =
    sym (numbers-none c.self.inside.objects c.args.object (sym c.in-None.ensures))
    ∙ ap (λ s. instances_of s c.args.object) c.self.view_is
