use Rattle.case_play.proofs.Found.{image_found, image_refused}
use Rattle.case_play.proofs.looking.find_in_image.Goals as goal

pub returns-in-Ok : goal.returns-in-Ok
returns-in-Ok c =
    image_found c.args.bytes.now c.in-Ok.scenario c.in-Ok.ensures.found c.in-Ok.ensures.only c.in-Ok.ensures.refused

pub returns-in-Err : goal.returns-in-Err
returns-in-Err c =
    image_refused c.args.bytes.now c.in-Err.fault c.refused_layout.result c.refused_layout.ensures
    c.in-Err.ensures.fault c.in-Err.ensures.only c.in-Err.ensures.refused
