use Rattle.std.proofs.Common.{subst}
use Rattle.fleet_core.specs.Verdict.{Judges}
use Rattle.case_play.proofs.Recording.{run_not_broken, breaks_there}
use Rattle.case_play.proofs.recorded.break_at.Goals as goal

pub returns-in-Run : goal.returns-in-Run
returns-in-Run c =
    run_not_broken c.args.scenario.now c.args.entries.now c.args.place
    (subst (Judges c.args.scenario.now c.args.entries.now) c.in-Run.is c.in_ok-check.ensures)

pub returns-in-NotRun : goal.returns-in-NotRun
returns-in-NotRun c =
    breaks_there c.args.scenario.now c.args.entries.now c.in-NotRun.at c.args.place
    (subst (Judges c.args.scenario.now c.args.entries.now) c.in-NotRun.is c.in_ok-check.ensures)
