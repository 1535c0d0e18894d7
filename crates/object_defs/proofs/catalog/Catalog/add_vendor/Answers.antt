use Rattle.std.proofs.Common.{ap, sym, ◌∙◌, ltb, arith}
use Rattle.std.specs.List.{insert, position_or_len}
use Rattle.object_defs.specs.Catalog.{object_of}
use Rattle.object_defs.specs.Order.{is_in_order}
use Rattle.object_defs.specs.Vendor.{new_object, with_object}
use Rattle.object_defs.proofs.LookUps.{object_of-with_object_same, object_of-with_object_other}
use Rattle.object_defs.proofs.Order.{in_order-with_object}
use Rattle.object_defs.proofs.Inserting.{place_in, place-le-length, insert-above}
use Rattle.object_defs.proofs.catalog.Catalog.add_vendor.Goals as goal

pub insert-requires : goal.insert-requires
insert-requires c =
    let items = c.self.inside.objects.items in
    omega (
      arith,
      place_in (λ o. ltb c.args.id o.id) items _ _ c.self.view_is c.place_for-place.ensures,
      place-le-length (λ o. ltb c.args.id o.id) items,
    )

pub returns-clause-added : goal.returns-clause-added
returns-clause-added c =
    let items = c.self.inside.objects.items in
    c.in_ok-insert.ensures.items
    ∙ ap (λ i. insert items i c.new-object.result)
    (place_in (λ o. ltb c.args.id o.id) items _ _ c.self.view_is c.place_for-place.ensures)
    ∙ ap (insert items (position_or_len (λ o. ltb c.args.id o.id) items)) c.new-object.ensures
    ∙ insert-above (λ o. o.id) (new_object c.args.id) items
    ∙ ap (λ os. with_object os c.args.id) c.self.view_is

pub invariant_of-self-2 : goal.invariant_of-self-2
invariant_of-self-2 c =
    ap is_in_order (returns-clause-added c)
    ∙ in_order-with_object c.args.self.now c.args.id (sym c.in_default.ensures)
    (ap is_in_order (sym c.self.view_is) ∙ c.self.invariant)

pub returns-clause-found : goal.returns-clause-found
returns-clause-found c =
    ap (λ os. object_of os c.args.id) (returns-clause-added c)
    ∙ object_of-with_object_same c.args.self.now c.args.id (sym c.in_default.ensures)

pub returns-clause-others : goal.returns-clause-others
returns-clause-others c =
    λ q h. ap (λ os. object_of os q) (returns-clause-added c)
    ∙ object_of-with_object_other c.args.self.now c.args.id q h
