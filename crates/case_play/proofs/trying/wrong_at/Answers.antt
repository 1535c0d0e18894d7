use Rattle.case_play.proofs.Tried.{tried_none, tried_some}
use Rattle.case_play.proofs.trying.wrong_at.Goals as goal

pub returns-in-None : goal.returns-in-None
returns-in-None c =
    tried_none c.args.case.now c.args.made.now c.args.stated.now c.args.below.now c.args.number c.as_slice.result.now
    c.in_ok-file_at.field-0 c.as_slice.ensures c.in_ok-file_at.ensures c.in-None.is

pub returns-in-Some : goal.returns-in-Some
returns-in-Some c =
    tried_some c.wrong_in.result c.args.case.now c.args.made.now c.args.stated.now c.args.below.now c.args.number
    c.as_slice.result.now c.in_ok-file_at.field-0 c.in-Some.file c.as_slice-in-Some.result.now c.as_slice.ensures
    c.in_ok-file_at.ensures c.in-Some.is c.as_slice-in-Some.ensures c.wrong_in.ensures
