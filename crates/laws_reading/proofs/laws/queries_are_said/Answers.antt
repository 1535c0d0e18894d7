use Rattle.laws_reading.proofs.Saying.{queries_are_said}
use Rattle.laws_reading.proofs.laws.queries_are_said.Goals as goal

pub returns : goal.returns
returns c = queries_are_said
