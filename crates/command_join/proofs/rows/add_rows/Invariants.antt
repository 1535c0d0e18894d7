-- The rows before this device were added.
use Rattle.std.proofs.Common.{◌≡◌, ◌++◌, take}
use Rattle.command_join.proofs.rows.add_rows.Given as goal

abbrev pub invariant-loop-device : goal.invariant-loop-device
invariant-loop-device l = record {
  classes : l.whole.classes ≡ l.fn.whole.classes;
  rows : l.whole.rows ≡ l.fn.whole.rows ++ take l.device l.part.rows;
}
