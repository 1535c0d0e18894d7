use Rattle.fleet_link.proofs.Played.{own_changes}
use Rattle.fleet_link.proofs.laws.played_steps_keep_changes.Goals as goal

pub returns : goal.returns
returns c = own_changes
