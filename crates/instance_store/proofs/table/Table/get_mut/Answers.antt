use Rattle.std.proofs.Common.{◌≡◌, ap, ◌∙◌}
use Rattle.std.specs.List.{slice_get}
use Rattle.std.specs.FinMap as map
use Rattle.instance_store.specs.Table.{index_in, table_of}
use Rattle.instance_store.proofs.TableLaws.{item_at, item_within, get-table, table-set, read_same}
use Rattle.instance_store.proofs.table.Table.get_mut.Goals as goal

pub returns : goal.returns
returns g c =
    let numbers = c.self.inside.numbers.items in
    let items = c.self.inside.items.items in
    let paired = c.self.invariant.paired in
    let at : c.index_of-index.result ≡ index_in numbers c.args.number =
    rw c.deref.ensures.value at c.index_of-index.ensures in
    rw (← c.self.view_is) (
      read_same c.get_mut.result _ (λ w. map.insert (table_of numbers items) c.args.number w) (table_of numbers items)
          (λ some w.
          rw at (table-set numbers items c.args.number w paired
          (rw (← at, ← paired) (item_within (λ x. x.now) items c.index_of-index.result c.get_mut.result
          c.get_mut.ensures.item some)))),
      record {
        writes_back = tt;
        value =
            item_at (λ x. x.now) items c.index_of-index.result c.get_mut.result c.get_mut.ensures.item
            ∙ ap (slice_get items) at
            ∙ get-table numbers items c.args.number paired;
      },
    )
