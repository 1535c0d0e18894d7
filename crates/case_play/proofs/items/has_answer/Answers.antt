use Rattle.case_play.proofs.Walking.{met_of}
use Rattle.case_play.proofs.items.has_answer.Goals as goal

pub returns-in-Some : goal.returns-in-Some
returns-in-Some c = λ spot at.
    met_of c.args.scenario.now spot c.args.part.now _ _ c.in-Some.device.now c.is_met.result c.in-Ask.is
    (c.in-Some.ensures spot at) c.is_met.ensures
