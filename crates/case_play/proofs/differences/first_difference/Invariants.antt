-- The items before this one hold, and the walk is at it.
use Rattle.case_play.proofs.Judged.{IsWalked}
use Rattle.case_play.proofs.differences.first_difference.Given as goal

abbrev pub invariant-loop-item : goal.invariant-loop-item
invariant-loop-item l = IsWalked l.scenario l.items l.item-index l.walk
