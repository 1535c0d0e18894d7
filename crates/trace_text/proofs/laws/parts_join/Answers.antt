use Rattle.trace_text.proofs.Parts.{joined}
use Rattle.trace_text.proofs.laws.parts_join.Goals as goal

pub returns : goal.returns
returns c = joined
