use Rattle.std.proofs.Common.{subst, sym}
use Rattle.device_machine.specs.Held.{IsUpToDate}
use Rattle.device_machine.proofs.Settling.{known_put}
use Rattle.device_machine.proofs.machine.Machine.put.Goals as goal

pub returns-clause-up_to_date : goal.returns-clause-up_to_date
returns-clause-up_to_date c =
    known_put _ _ c.self.inside.client c.put_fitting.new.client c.self.inside.observations
    c.say_reached.new.observations (subst IsUpToDate (sym c.self.view_is) c.requires) c.in_ok-put_fitting.ensures.put
    c.in_ok-say_reached.ensures.known
