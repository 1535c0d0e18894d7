-- The copies so far have made the step, if it is theirs, and each row that had a copy has one.
use Rattle.std.proofs.Common.{◌≡◌, ℕ, length}
use Rattle.debugger.specs.Searches.{HasWatch}
use Rattle.debugger.proofs.Watching.{AreStepping}
use Rattle.debugger.proofs.watches.step_watched.Given as goal

abbrev pub invariant-loop-place : goal.invariant-loop-place
invariant-loop-place l = record {
  steps : AreStepping l.scenario l.entries l.index l.place l.watched.items;
  others : (d : ℕ) → HasWatch l.initial.watched.items d → HasWatch l.watched.items d;
  count : length l.watched.items ≡ l.count;
}
