use Rattle.std.proofs.Common.{ap, sym, ◌∙◌}
use Rattle.std.specs.Prelude.{nat_lt}
use Rattle.std.specs.List.{list_all}
use Rattle.lemmas.proofs.Options.{not_refused}
use Rattle.scenario_layout.proofs.Items.{object_made, object_vendor}
use Rattle.scenario_layout.proofs.class.objects.object_id_at.Goals as goal

pub returns-clause-made : goal.returns-clause-made
returns-clause-made c =
    object_made c.args.template.now c.add_object.new.self c.in_ok-id.id c.requires
    (ap (list_all (λ o. nat_lt o.id c.in_ok-id.id)) (sym (c.objects.ensures.value ∙ c.catalog.ensures))
    ∙ sym c.is_above.ensures ∙ c.if-not-is_above.false)
    c.in_default.ensures.added

pub returns-clause-vendor : goal.returns-clause-vendor
returns-clause-vendor c =
    object_vendor c.args.template.now c.in_ok-id.id
    (not_refused _ c.add_object.result c.in_default.field-0 c.in_default.is c.add_object.ensures.refuses)
