use Rattle.std.proofs.Common.{subst}
use Rattle.case_play.specs.Walks.{Passes}
use Rattle.case_play.proofs.Coming.{none_came}
use Rattle.case_play.proofs.Comparing.{checked_out}
use Rattle.case_play.proofs.differences.item_difference.Goals as goal

pub returns-in-None : goal.returns-in-None
returns-in-None c = λ spot at.
    let none = subst (λ r. Passes c.args.scenario.now spot c.args.item.now.part r c.pass.new.self) c.in-None.is
    (c.in_ok-pass.ensures spot at) in (
      checked_out c.args.scenario.now spot c.args.item.now c.pass.new.self none,
      none_came c.args.scenario.now spot c.args.item.now.part none,
    )

pub returns-in-Some : goal.returns-in-Some
returns-in-Some c = λ spot at.
    let passed = subst (λ r. Passes c.args.scenario.now spot c.args.item.now.part r c.pass.new.self) c.in-Some.is
    (c.in_ok-pass.ensures spot at) in
    c.output_difference.ensures spot passed.0 passed.1
