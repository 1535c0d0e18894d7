-- The digits of the bytes before this one are allowed.
use Rattle.case_play.proofs.Matching.{AreAllowed}
use Rattle.case_play.proofs.digits.matches.Given as goal

abbrev pub invariant-loop-i : goal.invariant-loop-i
invariant-loop-i l = AreAllowed l.digits l.bytes l.i
