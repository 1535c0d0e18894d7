use Rattle.device_notifications.proofs.Reaching.{stays_said}
use Rattle.device_notifications.proofs.laws.others_do_not_reach.Goals as goal

pub returns : goal.returns
returns c = stays_said
