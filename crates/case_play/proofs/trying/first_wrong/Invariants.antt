-- The answer is right of the files before this number.
use Rattle.case_play.proofs.Tried.{AreRightBefore}
use Rattle.case_play.proofs.trying.first_wrong.Given as goal

abbrev pub invariant-loop-number : goal.invariant-loop-number
invariant-loop-number l = AreRightBefore l.case l.made l.stated l.below l.number
