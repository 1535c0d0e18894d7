use Rattle.server_lint.specs.Findings.{AreThose, IsFinding, candidates}
use Rattle.server_lint.proofs.finding.find_broken.Given as goal

abbrev pub invariant-loop-place : goal.invariant-loop-place
invariant-loop-place l = AreThose (IsFinding l.chosen l.history l.end) (candidates l.place) l.found.items
