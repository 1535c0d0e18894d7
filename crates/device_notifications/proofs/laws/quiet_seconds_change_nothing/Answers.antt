use Rattle.device_notifications.proofs.Resting.{quiet_seconds}
use Rattle.device_notifications.proofs.laws.quiet_seconds_change_nothing.Goals as goal

pub returns : goal.returns
returns c = quiet_seconds
