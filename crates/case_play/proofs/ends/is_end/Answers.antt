use Rattle.case_play.proofs.Ending.{end_so, written_so}
use Rattle.case_play.proofs.ends.is_end.Goals as goal

pub returns-in-End : goal.returns-in-End
returns-in-End c =
    end_so c.ends_so.result c.args.scenario.now c.args.entries.now c.args.answers.now c.args.stated.now _ c.in-End.is
    c.ends_so.ensures

pub returns-in-Written : goal.returns-in-Written
returns-in-Written c =
    written_so c.is_written_so.result c.args.scenario.now c.args.entries.now c.args.answers.now c.args.stated.now _
    c.in-Written.is c.is_written_so.ensures
