use Rattle.std.proofs.Common.{ap, ◌∙◌}
use Rattle.std.specs.List.{slice_get}
use Rattle.std.specs.FinMap as map
use Rattle.instance_store.proofs.TableLaws.{item_at, get-table}
use Rattle.instance_store.proofs.table.Table.get.Goals as goal

pub returns : goal.returns
returns g c =
    item_at (λ x. x.now) c.deref-2.result.now c.index_of-index.result c.get.result c.get.ensures.lookup
    ∙ ap (λ xs. slice_get xs c.index_of-index.result) c.deref-2.ensures.value
    ∙ ap (slice_get c.self.inside.items.items) (rw c.deref.ensures.value at c.index_of-index.ensures)
    ∙ get-table c.self.inside.numbers.items c.self.inside.items.items c.args.number c.self.invariant.paired
    ∙ ap (λ m. map.get m c.args.number) c.self.view_is
