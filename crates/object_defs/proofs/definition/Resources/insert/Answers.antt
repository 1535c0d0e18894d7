use Rattle.std.proofs.Common.{ap, ◌∙◌, ltb, arith}
use Rattle.std.specs.List.{insert}
use Rattle.object_defs.specs.Vendor.{with_inserted}
use Rattle.object_defs.proofs.Inserting.{place_in, place-le-length, insert-above}
use Rattle.object_defs.proofs.definition.Resources.insert.Goals as goal

pub insert-requires : goal.insert-requires
insert-requires c =
    let items = c.self.inside.items.items in
    omega (
      arith,
      place_in (λ r. ltb c.args.definition.id r.id) items _ _ c.self.view_is c.place_for-place.ensures,
      place-le-length (λ r. ltb c.args.definition.id r.id) items,
    )

pub returns-clause-ok : goal.returns-clause-ok
returns-clause-ok c =
    let items = c.self.inside.items.items in
    c.in_ok-insert.ensures.items
    ∙ ap (λ i. insert items i c.args.definition)
    (place_in (λ r. ltb c.args.definition.id r.id) items _ _ c.self.view_is c.place_for-place.ensures)
    ∙ insert-above (λ r. r.id) c.args.definition items
    ∙ ap (with_inserted (λ r. r.id) c.args.definition) c.self.view_is
