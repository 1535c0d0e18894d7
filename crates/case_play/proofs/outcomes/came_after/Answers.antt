use Rattle.case_play.proofs.Coming.{asked_at, nobody_came, question_came}
use Rattle.case_play.proofs.outcomes.came_after.Goals as goal

pub returns-in-None : goal.returns-in-None
returns-in-None c = λ spot puts at.
    nobody_came c.args.scenario.now spot c.args.part.now c.in-Ask.must_not c.in-Ask.question c.in-Ask.is
    (c.in-None.ensures spot
    (asked_at c.args.scenario.now spot c.args.part.now c.in-Ask.must_not c.in-Ask.question c.args.walk.now
    c.in-Ask.is at))

pub returns-in-Some : goal.returns-in-Some
returns-in-Some c = λ spot puts at.
    question_came c.came_asked.result c.args.scenario.now spot c.args.part.now c.in-Ask.must_not c.in-Ask.question
    c.in-Some.device.now c.args.outputs c.in-Ask.is puts
    (c.in-Some.ensures spot
    (asked_at c.args.scenario.now spot c.args.part.now c.in-Ask.must_not c.in-Ask.question c.args.walk.now
    c.in-Ask.is at))
    c.came_asked.ensures
