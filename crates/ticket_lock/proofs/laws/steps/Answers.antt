use Rattle.ticket_lock.proofs.Runs.{law}
use Rattle.ticket_lock.proofs.laws.steps.Goals as goal

pub returns : goal.returns
returns g c = law g.T.Logged.log
