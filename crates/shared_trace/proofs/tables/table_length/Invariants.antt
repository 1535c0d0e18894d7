use Rattle.std.proofs.Common.{◌≡◌, take}
use Rattle.shared_trace.specs.Kept.{places_for_rows}
use Rattle.shared_trace.proofs.tables.table_length.Given as goal

abbrev pub invariant-loop-device : goal.invariant-loop-device
invariant-loop-device l = l.most ≡ places_for_rows (take l.device l.scenario.rows)
