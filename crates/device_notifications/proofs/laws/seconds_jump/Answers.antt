use Rattle.device_notifications.proofs.Resting.{jumps}
use Rattle.device_notifications.proofs.laws.seconds_jump.Goals as goal

pub returns : goal.returns
returns c = jumps
