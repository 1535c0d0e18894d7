use Rattle.fleet_link.proofs.Played.{live_steps}
use Rattle.fleet_link.proofs.laws.unchanged_steps_are_live.Goals as goal

pub returns : goal.returns
returns c = live_steps
