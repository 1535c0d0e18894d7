use Rattle.std.proofs.Common.{◌≡◌, Bor, Option, None, Some, refl, sym, ap, ◌∙◌}
use Rattle.std.specs.FinMap as map
use Rattle.std.specs.Option.{is_some, option_copied}
use Rattle.instance_store.specs.Stored.{value_at, has_instance}
use Rattle.instance_store.specs.Tree.{tree, instance_below}
use Rattle.instance_store.proofs.StoreLaws.{value-some, value-none, known_instance}
use Rattle.instance_store.proofs.store.Store.holds.Goals as goal

same_test : {X : Type 0} (o : Option (Bor X)) → is_some o ≡ is_some (option_copied o)
same_test None = refl
same_test (Some x) = refl

pub returns-in-Some-clause-value : goal.returns-in-Some-clause-value
returns-in-Some-clause-value c =
    c.is_some.ensures
    ∙ same_test c.get.result
    ∙ ap is_some (c.get.ensures
    ∙ sym (value-some c.self.inside.objects c.args.path c.in-Some.instance.now
    (ap (map.get (tree c.self.inside.objects)) (sym c.place_above.ensures) ∙ sym c.in-Some.ensures))
    ∙ ap (λ s. value_at s c.args.path) c.self.view_is)

pub returns-in-Some-clause-instance : goal.returns-in-Some-clause-instance
returns-in-Some-clause-instance c = λ h.
    ap (λ s. has_instance s (instance_below c.args.path)) (sym c.self.view_is)
    ∙ known_instance c.self.inside.objects (instance_below c.args.path) c.in-Some.instance.now
    (ap (map.get (tree c.self.inside.objects)) (sym c.place_above.ensures) ∙ sym c.in-Some.ensures)

pub returns-in-None-clause-value : goal.returns-in-None-clause-value
returns-in-None-clause-value c =
    ap is_some (sym (value-none c.self.inside.objects c.args.path
    (ap (map.get (tree c.self.inside.objects)) (sym c.place_above.ensures) ∙ sym c.in-None.ensures)))
    ∙ ap (λ s. is_some (value_at s c.args.path)) c.self.view_is
