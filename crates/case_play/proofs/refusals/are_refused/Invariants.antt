-- The items before this one hold.
use Rattle.case_play.specs.Refusals.{FaultsHold}
use Rattle.case_play.proofs.Each.{HoldsTo}
use Rattle.case_play.proofs.refusals.are_refused.Given as goal

abbrev pub invariant-loop-item : goal.invariant-loop-item
invariant-loop-item l = HoldsTo (FaultsHold l.numbers l.fault) l.items l.item-index
