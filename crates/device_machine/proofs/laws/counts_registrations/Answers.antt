use Rattle.device_machine.proofs.Counting.{registrations}
use Rattle.device_machine.proofs.laws.counts_registrations.Goals as goal

pub returns : goal.returns
returns c = registrations
