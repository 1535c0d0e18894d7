use Rattle.std.proofs.Common.{IfOk, subst}
use Rattle.case_text.specs.declared.file_case.FileKind.TheVariants.{Text}
use Rattle.case_play.specs.Trying.{IsOneFinding}
use Rattle.case_play.proofs.Found.{text_unreadable}
use Rattle.case_play.proofs.looking.find_in_text.Goals as goal

pub returns-in-Ok : goal.returns-in-Ok
returns-in-Ok c =
    subst (λ bytes. IfOk c.find_in_utf8.result (λ x. IsOneFinding Text bytes x)) c.in-Ok.ensures.cases.0
    c.find_in_utf8.ensures

pub returns-in-Err : goal.returns-in-Err
returns-in-Err c =
    text_unreadable c.args.bytes.now c.unreadable.result c.in-Err.ensures.cases.0 c.unreadable.ensures
