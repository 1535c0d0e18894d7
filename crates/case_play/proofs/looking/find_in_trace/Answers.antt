use Rattle.case_play.proofs.Found.{trace_found, trace_refused}
use Rattle.case_play.proofs.looking.find_in_trace.Goals as goal

pub returns-in-Ok : goal.returns-in-Ok
returns-in-Ok c =
    trace_found c.args.bytes.now c.in-Ok.entries c.in-Ok.ensures.found c.in-Ok.ensures.only c.in-Ok.ensures.refused

pub returns-in-Err : goal.returns-in-Err
returns-in-Err c =
    trace_refused c.args.bytes.now c.in-Err.fault c.refused_layout.result c.refused_layout.ensures
    c.in-Err.ensures.fault c.in-Err.ensures.only c.in-Err.ensures.refused
