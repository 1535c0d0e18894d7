use Rattle.std.proofs.Common.{◌≡◌, Option, None, Some, is_some, sym, ap, ◌∙◌}
use Rattle.std.specs.Option.{IfSome}
use Rattle.std.specs.FinMap as map
use Rattle.object_defs.specs.Path.{single_of}
use Rattle.instance_store.specs.Stored.{value_at, has_instance, instance_of}
use Rattle.instance_store.specs.Tree.{tree}
use Rattle.instance_store.proofs.StoreLaws.{value-some, value-none, has-tree}
use Rattle.instance_store.proofs.store.Store.single.Goals as goal

pub returns-in-Some-clause-value : goal.returns-in-Some-clause-value
returns-in-Some-clause-value c =
    c.get.ensures
    ∙ sym (value-some c.self.inside.objects (single_of c.args.path) c.in-Some.instance.now
    (ap (map.get (tree c.self.inside.objects)) (sym c.place_of.ensures) ∙ sym c.in-Some.ensures))
    ∙ ap (λ s. value_at s (single_of c.args.path)) c.self.view_is

whatever_it_is : {X : Type 0} (found : Option X) {P : Type 0} → P → IfSome found (λ _. P)
whatever_it_is None p = tt
whatever_it_is (Some x) p = p

pub returns-in-Some-clause-there : goal.returns-in-Some-clause-there
returns-in-Some-clause-there c =
    let at = instance_of c.args.path in
    whatever_it_is c.get.result (ap (λ s. has_instance s at) (sym c.self.view_is) ∙ has-tree c.self.inside.objects at
    ∙ ap (λ p. is_some (map.get (tree c.self.inside.objects) p)) (sym c.place_of.ensures)
    ∙ ap is_some (sym c.in-Some.ensures))

pub returns-in-None-clause-value : goal.returns-in-None-clause-value
returns-in-None-clause-value c =
    sym (value-none c.self.inside.objects (single_of c.args.path)
    (ap (map.get (tree c.self.inside.objects)) (sym c.place_of.ensures) ∙ sym c.in-None.ensures))
    ∙ ap (λ s. value_at s (single_of c.args.path)) c.self.view_is
