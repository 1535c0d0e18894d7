use Rattle.std.proofs.Common.{sym}
use Rattle.case_play.proofs.Walking.{asks_or}
use Rattle.case_play.proofs.walk.Walk.asked.Goals as goal

pub returns-in-None : goal.returns-in-None
returns-in-None c = λ spot at.
    asks_or c.args.scenario.now spot c.args.self.now _ c.rows-known.ensures.valid at c.in-None.is
    (sym c.as_ref.ensures.value)
