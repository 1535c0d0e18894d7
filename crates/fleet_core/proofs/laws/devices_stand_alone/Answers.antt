use Rattle.fleet_core.proofs.Agreeing.{alike}
use Rattle.fleet_core.proofs.laws.devices_stand_alone.Goals as goal

pub returns : goal.returns
returns c = alike
