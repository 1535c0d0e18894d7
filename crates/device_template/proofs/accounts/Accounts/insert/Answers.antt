use Rattle.std.proofs.Common.{ap, ◌∙◌, ltb, arith}
use Rattle.std.specs.List.{insert}
use Rattle.object_defs.specs.Vendor.{with_inserted}
use Rattle.object_defs.proofs.Inserting.{place_in, place-le-length, insert-above}
use Rattle.device_template.proofs.accounts.Accounts.insert.Goals as goal

pub insert-requires : goal.insert-requires
insert-requires c =
    let items = c.self.inside.items.items in
    omega (
      arith,
      place_in (λ a. ltb c.args.server a) items _ _ c.self.view_is c.place_for-place.ensures,
      place-le-length (λ a. ltb c.args.server a) items,
    )

pub returns-clause-ok : goal.returns-clause-ok
returns-clause-ok c =
    let items = c.self.inside.items.items in
    c.in_ok-insert.ensures.items
    ∙ ap (λ i. insert items i c.args.server)
    (place_in (λ a. ltb c.args.server a) items _ _ c.self.view_is c.place_for-place.ensures)
    ∙ insert-above (λ a. a) c.args.server items
    ∙ ap (with_inserted (λ a. a) c.args.server) c.self.view_is
