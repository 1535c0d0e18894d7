use Rattle.std.proofs.Common.{subst}
use Rattle.fleet_core.specs.Verdict.{Judges}
use Rattle.case_play.proofs.Recording.{broken_no_run}
use Rattle.case_play.proofs.recorded.are_run.Goals as goal

pub returns-in-NotRun : goal.returns-in-NotRun
returns-in-NotRun c =
    broken_no_run c.args.scenario.now c.args.entries.now c.in-NotRun.field-0
    (subst (Judges c.args.scenario.now c.args.entries.now) c.in-NotRun.is c.in_ok-check.ensures)
