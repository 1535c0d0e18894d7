use Rattle.case_play.proofs.Found.{text_found, text_refused}
use Rattle.case_play.proofs.looking.find_in_utf8.Goals as goal

pub returns-in-Ok : goal.returns-in-Ok
returns-in-Ok c = text_found c.args.text.now c.in-Ok.scenario c.utf8.text c.in-Ok.ensures.assembled

pub returns-in-Err : goal.returns-in-Err
returns-in-Err c =
    text_refused c.args.text.now c.in-Err.fault c.refused_text.result c.utf8.text c.refused_text.ensures
    c.in-Err.ensures.assembled
