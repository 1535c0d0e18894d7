use Rattle.case_play.proofs.Ending.{other_so, verdict_so}
use Rattle.case_play.proofs.recorded.is_of_entries.Goals as goal

pub returns-in-Verdict : goal.returns-in-Verdict
returns-in-Verdict c =
    verdict_so c.is_verdict.result c.args.scenario.now c.args.entries.now c.args.answers.now c.args.stated.now _
    c.in-Verdict.is c.is_verdict.ensures

pub returns-in-Output : goal.returns-in-Output
returns-in-Output c =
    other_so c.is_end.result c.args.scenario.now c.args.entries.now c.args.answers.now c.args.stated.now
    c.in-Output.is c.is_end.ensures
