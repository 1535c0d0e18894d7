-- The scenario has the steps so far, none of which was refused; the others are still to come.
use Rattle.std.proofs.Common.{◌≡◌, ◌++◌, length}
use Rattle.std.specs.Vec.Iter.{into_iter_items, into_iter_len}
use Rattle.scenario_image.specs.Scenario.{one_row, AreTaken}
use Rattle.scenario_image.proofs.scenario.Scenario.single.Given as goal

abbrev pub invariant-loop-step : goal.invariant-loop-step
invariant-loop-step l = record {
  left : l.yielded ++ into_iter_items l.step-iterator ≡ into_iter_items l.initial.step-iterator;
  count : into_iter_len l.step-iterator ≡ length (into_iter_items l.step-iterator);
  scenario : l.scenario ≡ one_row l.fn.class l.yielded;
  taken : AreTaken l.fn.class l.yielded (length l.yielded);
}
