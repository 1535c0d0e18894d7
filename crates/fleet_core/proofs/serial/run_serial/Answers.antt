use Rattle.fleet_core.proofs.Agreeing.{same_made}
use Rattle.fleet_core.proofs.serial.run_serial.Goals as goal

pub returns-clause-same : goal.returns-clause-same
returns-clause-same c = same_made c.args.scenario.now
