use Rattle.fleet_core.specs.Board.{ShowsAfter}
use Rattle.command_lint.proofs.reasons.make_steps.Given as goal

abbrev pub invariant-loop-place : goal.invariant-loop-place
invariant-loop-place l = ShowsAfter l.scenario l.device l.place l.machine
