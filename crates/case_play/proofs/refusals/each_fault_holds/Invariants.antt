-- The answers before this one hold.
use Rattle.case_play.specs.Refusals.{FaultHolds}
use Rattle.case_play.proofs.Each.{HoldsTo}
use Rattle.case_play.proofs.refusals.each_fault_holds.Given as goal

abbrev pub invariant-loop-answer : goal.invariant-loop-answer
invariant-loop-answer l = HoldsTo (FaultHolds l.numbers l.fault) l.answers l.answer-index
