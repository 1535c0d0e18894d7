use Rattle.std.proofs.Common.{[], refl}
use Rattle.fleet_core.proofs.Waking.{first_turn}
use Rattle.fleet_core.proofs.roster.Roster.new.Goals as goal

pub returns : goal.returns
returns c =
    first_turn c.args.scenario.now [] _ c.in_ok-waiting.ensures refl c.rows-rows.ensures.count
