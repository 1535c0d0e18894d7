use Rattle.std.proofs.Common.{ap}
use Rattle.fleet_core.specs.Run.{steps_in}
use Rattle.trace_text.proofs.Seconds.{few_seconds}
use Rattle.trace_text.proofs.clock.row_steps.Goals as goal

pub returns-in-Some-clause-seconds : goal.returns-in-Some-clause-seconds
returns-in-Some-clause-seconds c =
    few_seconds c.args.scenario.now c.args.device c.in-Some.steps.now c.rows-known.ensures.valid
    (ap steps_in c.in-Some.ensures)
