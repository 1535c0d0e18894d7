use Rattle.std.proofs.Common.{◌≡◌}
use Rattle.fleet_core.specs.Board.{ShowsAfter}
use Rattle.command_lint.specs.History.{history_to}
use Rattle.command_lint.proofs.history.history_of.Given as goal

abbrev pub invariant-loop-place : goal.invariant-loop-place
invariant-loop-place l = record {
  clocks : l.clocks ≡ l.scenario;
  shows : ShowsAfter l.scenario l.device l.place l.machine;
  items : l.items.items ≡ history_to l.scenario l.device l.place;
}
