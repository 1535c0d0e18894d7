use Rattle.case_play.proofs.FileJudged.{wrong_holds, wrong_differs}
use Rattle.case_play.proofs.file_judging.came_where_wrong.Goals as goal

pub returns-then-answer : goal.returns-then-answer
returns-then-answer c = λ case made below other wrong.
    wrong_holds case made c.args.answer.now below c.args.finding.now other c.if-answer.true wrong

pub returns : goal.returns
returns c = λ case made below other wrong.
    wrong_differs case made c.args.answer.now below c.args.finding.now c.in_ok-came_of.field-0 other
    c.if-answer.false wrong c.in_ok-came_of.ensures
