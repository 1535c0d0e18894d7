use Rattle.std.proofs.Common.{sym, ap, ◌∙◌}
use Rattle.std.specs.FinMap as map
use Rattle.instance_store.proofs.TableLaws.{keys-table}
use Rattle.instance_store.proofs.table.Table.numbers.Goals as goal

pub returns : goal.returns
returns g c = c.as_slice.ensures.value ∙ sym (keys-table _ _ c.self.invariant) ∙ ap (λ m. map.keys m) c.self.view_is
