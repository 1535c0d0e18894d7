use Rattle.fleet_core.proofs.Holding.{fresh_holds}
use Rattle.fleet_core.proofs.held.Held.new.Goals as goal

pub returns : goal.returns
returns c =
    fresh_holds c.args.scenario.now c.args.device c.of.result.value c.class_of_row.result.now c.class_of_row.ensures
    c.of.ensures
