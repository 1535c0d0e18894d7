use Rattle.fleet_core.proofs.Started.{row_started}
use Rattle.fleet_core.proofs.performing.start_of_row.Goals as goal

pub returns : goal.returns
returns c =
    row_started c.args.scenario.now c.args.device c.class_of_row.result.now c.start.result c.class_of_row.ensures
    c.start.ensures
