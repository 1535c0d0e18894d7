use Rattle.std.proofs.Common.{sym, ap, ◌∙◌}
use Rattle.std.specs.FinMap as map
use Rattle.instance_store.specs.Table.{table_of}
use Rattle.instance_store.proofs.TableLaws.{table-remove, table-absent}
use Rattle.instance_store.proofs.table.Table.remove.Goals as goal

pub returns-in-Ok : goal.returns-in-Ok
returns-in-Ok g c =
    ap (λ ns. table_of ns c.remove-in-Ok.new.self.items) c.remove.ensures.items
    ∙ ap (table_of _) c.remove-in-Ok.ensures.items
    ∙ table-remove c.self.inside.numbers.items c.self.inside.items.items c.in-Ok.index c.args.number c.self.invariant
    (rw c.deref.ensures.value at c.in-Ok.ensures.position)
    ∙ ap (λ m. map.remove m c.args.number) c.self.view_is

pub returns-in-Err : goal.returns-in-Err
returns-in-Err g c =
    sym c.self.view_is
    ∙ table-absent c.self.inside.numbers.items c.self.inside.items.items c.in-Err.field-0 c.args.number c.self.invariant
    (rw c.deref.ensures.value at c.in-Err.ensures.position)
    ∙ ap (λ m. map.remove m c.args.number) c.self.view_is
