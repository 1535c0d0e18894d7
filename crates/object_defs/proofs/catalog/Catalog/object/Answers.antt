use Rattle.std.proofs.Common.{ap, sym, ◌∙◌}
use Rattle.object_defs.specs.Order.{is_in_order}
use Rattle.object_defs.proofs.OwnPlaces.{looked_up, object_by_place}
use Rattle.object_defs.proofs.catalog.Catalog.object.Goals as goal

pub returns-in-Some : goal.returns-in-Some
returns-in-Some c =
    object_by_place c.args.self.now c.args.id c.from.result c.in-Some.object.now
    (ap is_in_order (sym c.self.view_is) ∙ c.self.invariant)
    (looked_up c.deref.result.now c.args.self.now c.from.result c.in-Some.object.now
    (c.deref.ensures.value ∙ c.self.view_is) c.in-Some.ensures.lookup.0 c.in-Some.ensures.lookup.1)
    c.if-object-id.true
