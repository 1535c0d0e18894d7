use Rattle.std.proofs.Common.{sym, subst}
use Rattle.case_play.specs.Spots.{PutsOut}
use Rattle.case_play.specs.Walks.{IsChecked}
use Rattle.case_play.proofs.differences.output_difference.Goals as goal

pub returns-in-None : goal.returns-in-None
returns-in-None c = λ spot puts at.
    subst (λ r. IsChecked c.args.scenario.now spot c.args.item.now r c.args.walk.now) c.in-None.is
    (c.in_ok-check_outputs.ensures spot
    (subst (PutsOut c.args.scenario.now spot c.args.item.now.part) (sym c.as_slice.ensures) puts) at)

pub returns-in_ok-came-in-Some : goal.returns-in_ok-came-in-Some
returns-in_ok-came-in-Some c = λ spot puts at. (
  subst (λ r. IsChecked c.args.scenario.now spot c.args.item.now r c.args.walk.now) c.in-Some.is
      (c.in_ok-check_outputs.ensures spot
      (subst (PutsOut c.args.scenario.now spot c.args.item.now.part) (sym c.as_slice.ensures) puts) at),
  c.in_ok-came-in-Some.ensures spot puts at,
)
