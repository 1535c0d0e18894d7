use Rattle.device_machine.proofs.Ticks.{before_pmax}
use Rattle.device_machine.proofs.laws.notifies_before_pmax.Goals as goal

pub returns : goal.returns
returns c = before_pmax
