use Rattle.device_instances.proofs.Deleted.{no_value_left, no_control_left}
use Rattle.device_instances.proofs.laws.deleted.Goals as goal

pub returns-clause-values : goal.returns-clause-values
returns-clause-values c = no_value_left

pub returns-clause-controls : goal.returns-clause-controls
returns-clause-controls c = no_control_left
