use Rattle.device_machine.proofs.Ticks.{after_pmin}
use Rattle.device_machine.proofs.laws.notifies_after_pmin.Goals as goal

pub returns : goal.returns
returns c = after_pmin
