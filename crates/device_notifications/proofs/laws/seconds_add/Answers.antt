use Rattle.device_notifications.proofs.Spans.{seconds_add}
use Rattle.device_notifications.proofs.laws.seconds_add.Goals as goal

pub returns : goal.returns
returns c = seconds_add
