-- The entries before this one are a run, and were replayed.
use Rattle.fleet_core.proofs.Checked.{IsReplayed}
use Rattle.fleet_core.proofs.checking.check.Given as goal

abbrev pub invariant-loop-at : goal.invariant-loop-at
invariant-loop-at l = IsReplayed l.scenario l.entries l.at l.replay
