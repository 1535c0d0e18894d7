use Rattle.fleet_link.proofs.Served.{clock_by}
use Rattle.fleet_link.proofs.laws.clocks_show_seconds.Goals as goal

pub returns : goal.returns
returns c = clock_by
