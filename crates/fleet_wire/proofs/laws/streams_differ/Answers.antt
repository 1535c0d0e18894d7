use Rattle.fleet_wire.proofs.Schedules.{own_streams}
use Rattle.fleet_wire.proofs.laws.streams_differ.Goals as goal

pub returns : goal.returns
returns c = own_streams
