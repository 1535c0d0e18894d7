-- What a table is after a write through a reference into it.
use Rattle.std.specs.Prelude.{ℕ, Option}
use Rattle.std.specs.Borrow.{LendsIf, Fml, RattleType, MutBor}
use Rattle.std.specs.FinMap as map
use Rattle.instance_store.specs.Table.{TableOf}
use Rattle.instance_store.specs.contracts.table.Table.{the_row}

-- once the borrow ends, the table has the last value written through it at the number; at `None` it is as it was
abbrev pub lends_item : (T : RattleType) → MutBor (TableOf T.Denot) → ℕ → Option (MutBor T.Denot) → Fml
lends_item T table number r = LendsIf (the_row T) T table r (λ w. map.insert table.now number w) table.now
