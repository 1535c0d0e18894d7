use Rattle.case_play.proofs.Walking.{line_passes}
use Rattle.case_play.proofs.walk.Walk.pass.Goals as goal

pub returns-in-Line : goal.returns-in-Line
returns-in-Line c = λ spot at.
    line_passes c.args.scenario.now spot c.args.part.now c.args.self.now c.no_outputs.result c.in-Line.is at
    c.no_outputs.ensures
