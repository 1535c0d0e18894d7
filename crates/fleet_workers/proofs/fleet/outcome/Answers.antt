use Rattle.std.proofs.Common.{sym, subst}
use Rattle.worker_visits.specs.Knowing.{IsDone}
use Rattle.fleet_workers.specs.Fleet.{HasEnded, IsOutcome}
use Rattle.fleet_workers.proofs.Ending.{fleet_run}
use Rattle.fleet_workers.proofs.fleet.outcome.Goals as goal

pub returns-in-Done-clause-run : goal.returns-in-Done-clause-run
returns-in-Done-clause-run c =
    let done : IsDone c.args.scenario.now c.args.entries =
    subst (HasEnded c.args.scenario.now c.args.entries) c.in-Done.is c.requires.ended in
    fleet_run c.args.scenario.now c.args.workers c.args.entries _ c.requires.by_workers done.complete done.ended

pub returns-in-Stalled-clause-outcome : goal.returns-in-Stalled-clause-outcome
returns-in-Stalled-clause-outcome c =
    subst (λ e. IsOutcome c.args.entries e c.stalled_run.result) (sym c.in-Stalled.is)
    (c.stalled_run.ensures.entries, c.stalled_run.ensures.fault)

pub returns-in-Stalled-clause-run : goal.returns-in-Stalled-clause-run
returns-in-Stalled-clause-run c = c.stalled_run.ensures.run c.args.workers c.requires.by_workers
