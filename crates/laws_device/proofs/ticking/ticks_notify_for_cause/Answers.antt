use Rattle.laws_device.proofs.Ticks.{for_cause, send_again, send_caused}
use Rattle.laws_device.proofs.ticking.ticks_notify_for_cause.Goals as goal

pub returns-clause-cause : goal.returns-clause-cause
returns-clause-cause c = for_cause

pub returns-clause-sent : goal.returns-clause-sent
returns-clause-sent c = send_caused

pub returns-clause-again : goal.returns-clause-again
returns-clause-again c = send_again
