use Rattle.laws_device.proofs.Ticks.{quiet}
use Rattle.laws_device.proofs.ticking.settled_ticks_are_quiet.Goals as goal

pub returns : goal.returns
returns c = quiet
