use Rattle.std.proofs.Common.{ap, sym, ◌∙◌}
use Rattle.object_defs.specs.Order.{is_in_order}
use Rattle.object_defs.proofs.OwnPlaces.{looked_up, resource_by_place}
use Rattle.object_defs.proofs.catalog.Catalog.resource.Goals as goal

pub returns-in-Some : goal.returns-in-Some
returns-in-Some c =
    resource_by_place c.args.self.now c.args.object c.args.id c.from.result c.in_ok-found.found.now
    c.in-Some.resource.now (ap is_in_order (sym c.self.view_is) ∙ c.self.invariant) c.in_ok-found.ensures
    (looked_up c.as_slice.result.now c.in_ok-found.found.now.resources c.from.result c.in-Some.resource.now
    c.as_slice.ensures c.in-Some.ensures.lookup.0 c.in-Some.ensures.lookup.1)
    c.if-resource-id.true
