-- The answers before this one hold.
use Rattle.case_play.specs.Ends.{EndHolds}
use Rattle.case_play.proofs.Each.{HoldsTo}
use Rattle.case_play.proofs.below.first_end.Given as goal

abbrev pub invariant-loop-place : goal.invariant-loop-place
invariant-loop-place l = HoldsTo (EndHolds l.scenario l.entries l.part l.answers) l.answers l.place
