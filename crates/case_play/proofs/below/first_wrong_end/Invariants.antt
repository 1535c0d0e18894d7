-- What is stated below the items before this one holds.
use Rattle.case_text.specs.declared.item.Item.{Item}
use Rattle.case_play.specs.Ends.{EndsHold}
use Rattle.case_play.proofs.Each.{HoldsTo}
use Rattle.case_play.proofs.below.first_wrong_end.Given as goal

abbrev pub invariant-loop-place : goal.invariant-loop-place
invariant-loop-place l =
    HoldsTo (λ (item : Item). EndsHold l.scenario l.entries item.part item.answers) l.items l.place
