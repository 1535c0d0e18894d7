-- The last row has the steps so far.
use Rattle.std.proofs.Common.{◌≡◌, ◌∷◌, [], ◌++◌, take}
use Rattle.command_join.proofs.Adding.{row_with}
use Rattle.command_join.proofs.rows.add_row.Given as goal

abbrev pub invariant-loop-step : goal.invariant-loop-step
invariant-loop-step l = record {
  classes : l.whole.classes ≡ l.fn.whole.classes;
  rows : l.whole.rows ≡ l.fn.whole.rows ++ row_with l.class (take l.step-index l.steps) ∷ [];
}
