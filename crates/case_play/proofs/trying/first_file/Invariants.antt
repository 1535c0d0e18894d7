-- There is no file before this number.
use Rattle.case_play.proofs.Tried.{AreNoneBefore}
use Rattle.case_play.proofs.trying.first_file.Given as goal

abbrev pub invariant-loop-number : goal.invariant-loop-number
invariant-loop-number l = AreNoneBefore l.case l.made l.number
