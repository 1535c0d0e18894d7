use Rattle.trace_json.proofs.Reasoned.{object_without}
use Rattle.trace_json.proofs.laws.reasons_are_members.Goals as goal

pub returns : goal.returns
returns c = object_without
