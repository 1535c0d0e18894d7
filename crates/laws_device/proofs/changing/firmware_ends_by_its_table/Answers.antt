use Rattle.laws_device.proofs.Changed.{ends_miss, ends_taken}
use Rattle.laws_device.proofs.changing.firmware_ends_by_its_table.Goals as goal

pub returns-clause-taken : goal.returns-clause-taken
returns-clause-taken c = ends_taken

pub returns-clause-missed : goal.returns-clause-missed
returns-clause-missed c = ends_miss
