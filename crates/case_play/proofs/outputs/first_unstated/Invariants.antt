-- The answers before this one are so, and are about as many outputs.
use Rattle.case_play.proofs.Stating.{AreSo}
use Rattle.case_play.proofs.outputs.first_unstated.Given as goal

abbrev pub invariant-loop-i : goal.invariant-loop-i
invariant-loop-i l = AreSo l.answers l.outputs l.i l.before
