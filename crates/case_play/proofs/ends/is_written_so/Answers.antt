use Rattle.case_play.proofs.Ending.{image_so, trace_so}
use Rattle.case_play.proofs.ends.is_written_so.Goals as goal

pub returns-in-Image : goal.returns-in-Image
returns-in-Image c =
    image_so c.is_image.result c.args.scenario.now c.args.entries.now c.args.answers.now c.args.stated.now _
    c.as_slice.result.now c.in-Image.is c.as_slice.ensures c.is_image.ensures

pub returns-in-Trace : goal.returns-in-Trace
returns-in-Trace c =
    trace_so c.is_trace.result c.args.scenario.now c.args.entries.now c.args.answers.now c.args.stated.now _
    c.as_slice-in-Trace.result.now c.in-Trace.is c.as_slice-in-Trace.ensures c.is_trace.ensures
