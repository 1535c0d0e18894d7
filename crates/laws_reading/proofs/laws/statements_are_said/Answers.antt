use Rattle.laws_reading.proofs.Statements.{statements_are_said}
use Rattle.laws_reading.proofs.laws.statements_are_said.Goals as goal

pub returns : goal.returns
returns c = statements_are_said
