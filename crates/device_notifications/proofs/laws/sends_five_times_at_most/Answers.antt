use Rattle.device_notifications.proofs.Resendings.{five_times}
use Rattle.device_notifications.proofs.laws.sends_five_times_at_most.Goals as goal

pub returns : goal.returns
returns c = five_times
