use Rattle.case_play.proofs.Walking.{aside_passes}
use Rattle.case_play.proofs.walk.Walk.take_aside.Goals as goal

pub returns : goal.returns
returns c = λ spot at.
    aside_passes c.args.scenario.now spot c.args.event.now c.args.self.now c.in-Some.asked.now c.in_ok-copy.copy
    c.take_event.new.device c.in_ok-outputs.outputs at (c.in-Some.ensures spot at) c.in_ok-copy.ensures
    c.in_ok-outputs.ensures
