use Rattle.device_notifications.proofs.Turns.{sends_before_pmax, seconds_send_before_pmax}
use Rattle.device_notifications.proofs.laws.sends_before_pmax.Goals as goal

pub returns-clause-one : goal.returns-clause-one
returns-clause-one c = sends_before_pmax

pub returns-clause-more : goal.returns-clause-more
returns-clause-more c = seconds_send_before_pmax
