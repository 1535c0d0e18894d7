use Rattle.std.proofs.Common.{inl, subst}
use Rattle.case_play.specs.Cases.{IsJudged}
use Rattle.case_play.proofs.judging.judge_items.Goals as goal

pub returns-in-Some : goal.returns-in-Some
returns-in-Some c =
    inl (subst (IsJudged c.args.scenario.now c.args.items.now) c.in-Some.is c.in_ok-first_difference.ensures)
