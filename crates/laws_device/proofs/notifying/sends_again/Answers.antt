use Rattle.laws_device.proofs.Sent.{open_is_sent_again, seconds_send_again}
use Rattle.laws_device.proofs.notifying.sends_again.Goals as goal

pub returns-clause-one : goal.returns-clause-one
returns-clause-one c = open_is_sent_again

pub returns-clause-more : goal.returns-clause-more
returns-clause-more c = seconds_send_again
