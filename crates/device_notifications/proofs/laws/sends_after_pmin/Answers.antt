use Rattle.device_notifications.proofs.Turns.{sends_after_pmin}
use Rattle.device_notifications.proofs.Spans.{seconds_send_after_pmin}
use Rattle.device_notifications.proofs.laws.sends_after_pmin.Goals as goal

pub returns-clause-one : goal.returns-clause-one
returns-clause-one c = sends_after_pmin

pub returns-clause-more : goal.returns-clause-more
returns-clause-more c = seconds_send_after_pmin
