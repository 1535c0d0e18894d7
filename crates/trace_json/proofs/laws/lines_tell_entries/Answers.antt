use Rattle.trace_json.proofs.Again.{told_apart}
use Rattle.trace_json.proofs.laws.lines_tell_entries.Goals as goal

pub returns : goal.returns
returns c = told_apart
