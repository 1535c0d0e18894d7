use Rattle.device_machine.proofs.Ticks.{count}
use Rattle.device_machine.proofs.laws.counts_notifications.Goals as goal

pub returns : goal.returns
returns c = count
