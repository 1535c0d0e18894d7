use Rattle.trace_json.proofs.Again.{has_entry}
use Rattle.trace_json.proofs.laws.lines_have_entries.Goals as goal

pub returns : goal.returns
returns c = has_entry
