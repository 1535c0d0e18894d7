use Rattle.case_play.proofs.Walking.{begins}
use Rattle.case_play.proofs.walk.Walk.begin.Goals as goal

pub returns : goal.returns
returns c = λ spot at.
    begins c.args.scenario.now spot c.args.times c.from.result c.rows-rows.result c.args.self.now
    c.in_ok-machine.machine
    c.no_outputs.result at c.from.ensures c.if-times-eq0.false c.if-begun-rows.false c.rows-rows.ensures.count
    c.in_ok-machine.ensures c.no_outputs.ensures
