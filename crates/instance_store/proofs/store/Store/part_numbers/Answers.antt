use Rattle.std.proofs.Common.{eqb, sym, ap, ◌∙◌}
use Rattle.std.specs.List.{filter, filter_map}
use Rattle.std.specs.FinMap as map
use Rattle.instance_store.specs.Stored.{parts_of, has_instance, instance_of}
use Rattle.instance_store.specs.Tree.{tree}
use Rattle.instance_store.proofs.Answers.{not_untrue}
use Rattle.instance_store.proofs.StoreLaws.{listed-resource, listed-no_resource, part_numbers, known_instance}
use Rattle.instance_store.proofs.store.Store.part_numbers.Goals as goal

pub returns-in-Some-clause-parts : goal.returns-in-Some-clause-parts
returns-in-Some-clause-parts c =
    c.parts.ensures
    ∙ sym (ap (filter_map (λ e. e.0.part)) (listed-resource c.self.inside.objects (instance_of c.args.path)
    c.args.path.resource c.in-Some.instance.now
    (ap (map.get (tree c.self.inside.objects)) (sym c.place_of.ensures) ∙ sym c.in-Some.ensures))
    ∙ part_numbers (instance_of c.args.path)
    (filter (λ e. eqb e.0.0 c.args.path.resource) (map.entries c.in-Some.instance.now)))
    ∙ ap (λ s. parts_of s c.args.path) c.self.view_is

pub returns-in-Some-clause-absent : goal.returns-in-Some-clause-absent
returns-in-Some-clause-absent c = λ h.
    absurd (not_untrue (has_instance c.args.self.now (instance_of c.args.path))
    (ap (λ s. has_instance s (instance_of c.args.path)) (sym c.self.view_is)
    ∙ known_instance c.self.inside.objects (instance_of c.args.path) c.in-Some.instance.now
    (ap (map.get (tree c.self.inside.objects)) (sym c.place_of.ensures) ∙ sym c.in-Some.ensures)) h)

pub returns-in-None-clause-parts : goal.returns-in-None-clause-parts
returns-in-None-clause-parts c =
    sym (ap (filter_map (λ e. e.0.part)) (listed-no_resource c.self.inside.objects (instance_of c.args.path)
    c.args.path.resource (ap (map.get (tree c.self.inside.objects)) (sym c.place_of.ensures) ∙ sym c.in-None.ensures)))
    ∙ ap (λ s. parts_of s c.args.path) c.self.view_is
