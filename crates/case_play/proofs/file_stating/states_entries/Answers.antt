use Rattle.case_play.proofs.Stated.{entries_kept, trace_stated}
use Rattle.case_play.proofs.file_stating.states_entries.Goals as goal

pub returns-in-FaultOrOk : goal.returns-in-FaultOrOk
returns-in-FaultOrOk c =
    entries_kept c.are_kept.result c.args.file.now c.args.stated.now c.args.below.now c.args.entries.now
    c.in-FaultOrOk.is c.are_kept.ensures

pub returns-in-Trace : goal.returns-in-Trace
returns-in-Trace c =
    trace_stated c.is_trace.result c.args.file.now c.args.stated.now c.args.below.now c.args.entries.now _
    c.as_slice.result.now c.in-Trace.is c.as_slice.ensures c.is_trace.ensures
