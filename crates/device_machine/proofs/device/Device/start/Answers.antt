use Rattle.std.proofs.Common.{refl, rules}
use Rattle.device_machine.proofs.Living.{shows_same}
use Rattle.device_machine.proofs.device.Device.start.Goals as goal

pub returns : goal.returns
returns c = shows_same _ _ refl (search rules)
