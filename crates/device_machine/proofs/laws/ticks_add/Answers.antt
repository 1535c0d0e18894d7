use Rattle.device_machine.proofs.Ticks.{add}
use Rattle.device_machine.proofs.laws.ticks_add.Goals as goal

pub returns : goal.returns
returns c = add
