use Rattle.fleet_wire.proofs.Schedules.{passes_all}
use Rattle.fleet_wire.proofs.laws.nothing_chosen_passes.Goals as goal

pub returns : goal.returns
returns c = passes_all
