use Rattle.laws_device.proofs.Quiet.{at_rest}
use Rattle.laws_device.proofs.ticking.ticks_at_rest_are_quiet.Goals as goal

pub returns : goal.returns
returns c = at_rest
