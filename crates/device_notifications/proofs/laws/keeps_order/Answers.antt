use Rattle.device_notifications.proofs.Turns.{keeps_order}
use Rattle.device_notifications.proofs.laws.keeps_order.Goals as goal

pub returns : goal.returns
returns c = keeps_order
