use Rattle.device_machine.proofs.Refusing.{refused}
use Rattle.device_machine.proofs.laws.refusals_change_nothing.Goals as goal

pub returns : goal.returns
returns c = refused
