use Rattle.laws_device.proofs.Ticks.{rows_quiet}
use Rattle.laws_device.proofs.ticking.settled_rows_are_quiet.Goals as goal

pub returns : goal.returns
returns c = rows_quiet
