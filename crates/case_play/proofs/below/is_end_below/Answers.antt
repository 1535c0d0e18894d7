use Rattle.case_play.proofs.Recording.{below_recorded}
use Rattle.case_play.proofs.below.is_end_below.Goals as goal

pub returns-in-Some : goal.returns-in-Some
returns-in-Some c =
    below_recorded c.is_of_recorded.result c.args.scenario.now c.args.entries.now c.args.part.now c.args.answers.now
    c.args.stated.now c.in-Some.bytes.now c.as_slice.result.now c.in-Some.ensures c.as_slice.ensures
    c.is_of_recorded.ensures
