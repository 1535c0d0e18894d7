use Rattle.device_instances.proofs.Rights.{creator}
use Rattle.device_instances.proofs.laws.creator.Goals as goal

pub returns : goal.returns
returns c = creator
