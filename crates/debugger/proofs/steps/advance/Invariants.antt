-- The device has made the steps before this one, and the events among them are counted.
use Rattle.std.proofs.Common.{◌≡◌, ◌+◌, ◌≤◌}
use Rattle.fleet_core.specs.Board.{ShowsAfter}
use Rattle.debugger.specs.Replayed.{events_by}
use Rattle.debugger.proofs.steps.advance.Given as goal

abbrev pub invariant-loop-place : goal.invariant-loop-place
invariant-loop-place l = record {
  shows : ShowsAfter l.scenario l.device l.place l.machine;
  count : events_by l.scenario l.device l.from + l.steps ≡ events_by l.scenario l.device l.place;
  room : l.steps ≤ l.place;
}
