use Rattle.std.proofs.Common.{subst}
use Rattle.case_play.specs.Trying.{IsFirstOf}
use Rattle.case_play.proofs.FileJudged.{nowhere, right_holds, right_differs}
use Rattle.case_play.proofs.file_judging.came_where_right.Goals as goal

pub returns-in_default : goal.returns-in_default
returns-in_default c = λ below other right.
    nowhere c.args.case.now c.args.made.now c.args.answer.now below other
    (subst (IsFirstOf c.args.case.now c.args.made.now) c.in_default.is c.in_ok-file.ensures)

pub returns-then-not-answer : goal.returns-then-not-answer
returns-then-not-answer c = λ below other right.
    right_holds c.args.case.now c.args.made.now c.args.answer.now below c.in-Some.file other c.if-not-answer.true
    (subst (IsFirstOf c.args.case.now c.args.made.now) c.in-Some.is c.in_ok-file.ensures) right

pub returns : goal.returns
returns c = λ below other right.
    right_differs c.args.case.now c.args.made.now c.args.answer.now below c.in-Some.file c.as_slice.result.now
    c.in_ok-finding.finding c.in_ok-came_of.field-0 other c.if-not-answer.false
    (subst (IsFirstOf c.args.case.now c.args.made.now) c.in-Some.is c.in_ok-file.ensures) c.as_slice.ensures
    c.in_ok-finding.ensures.is c.in_ok-came_of.ensures right
