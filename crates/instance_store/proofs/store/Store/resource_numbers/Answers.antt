use Rattle.std.proofs.Common.{eqb, map as map_list, sym, ap, ◌∙◌}
use Rattle.std.specs.List.{dedup}
use Rattle.std.specs.FinMap as map
use Rattle.lwm2m_values.specs.declared.value.Value.{Value}
use Rattle.object_defs.specs.declared.path.FullPath.{FullPath}
use Rattle.instance_store.specs.Stored.{resources_of}
use Rattle.instance_store.proofs.StoreLaws.{listed-instance, listed-no_instance, resource_numbers}
use Rattle.instance_store.proofs.store.Store.resource_numbers.Goals as goal

pub returns-in-Some : goal.returns-in-Some
returns-in-Some c =
    c.resources.ensures
    ∙ sym (ap (λ es. dedup eqb (map_list (λ (e : FullPath × Value). e.0.resource) es))
    (listed-instance c.self.inside.objects c.args.place c.in-Some.instance.now (sym c.in-Some.ensures))
    ∙ ap (dedup eqb) (resource_numbers c.args.place (map.entries c.in-Some.instance.now)))
    ∙ ap (λ s. resources_of s c.args.place) c.self.view_is

pub returns-in-None : goal.returns-in-None
returns-in-None c =
    sym (ap (λ es. dedup eqb (map_list (λ (e : FullPath × Value). e.0.resource) es))
    (listed-no_instance c.self.inside.objects c.args.place (sym c.in-None.ensures)))
    ∙ ap (λ s. resources_of s c.args.place) c.self.view_is
