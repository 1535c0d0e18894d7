use Rattle.laws_device.proofs.Changed.{puts_miss, puts_set}
use Rattle.laws_device.proofs.changing.puts_set_one_value.Goals as goal

pub returns-clause-set : goal.returns-clause-set
returns-clause-set c = puts_set

pub returns-clause-missed : goal.returns-clause-missed
returns-clause-missed c = puts_miss
