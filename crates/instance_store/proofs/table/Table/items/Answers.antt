use Rattle.std.proofs.Common.{sym, ap, ◌∙◌}
use Rattle.std.specs.FinMap as map
use Rattle.instance_store.proofs.TableLaws.{values-table}
use Rattle.instance_store.proofs.table.Table.items.Goals as goal

pub returns : goal.returns
returns g c =
    c.as_slice.ensures.value ∙ sym (values-table _ _ c.self.invariant) ∙ ap (λ m. map.values m) c.self.view_is
