use Rattle.laws_device.proofs.Changed.{are_done}
use Rattle.laws_device.proofs.changing.requests_change_a_device.Goals as goal

pub returns : goal.returns
returns c = are_done c.requests_change_what_they_ask.ensures
