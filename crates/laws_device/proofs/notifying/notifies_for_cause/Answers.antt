use Rattle.laws_device.proofs.Causes.{for_cause, seconds_for_cause}
use Rattle.laws_device.proofs.Sent.{caused_is_sent, seconds_send_caused}
use Rattle.laws_device.proofs.notifying.notifies_for_cause.Goals as goal

pub returns-clause-one : goal.returns-clause-one
returns-clause-one c = for_cause

pub returns-clause-more : goal.returns-clause-more
returns-clause-more c = seconds_for_cause

pub returns-clause-sent : goal.returns-clause-sent
returns-clause-sent c = caused_is_sent

pub returns-clause-sent_in_more : goal.returns-clause-sent_in_more
returns-clause-sent_in_more c = seconds_send_caused
