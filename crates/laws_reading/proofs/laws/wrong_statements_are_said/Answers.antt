use Rattle.laws_reading.proofs.WrongStatements.{wrong_statements_said}
use Rattle.laws_reading.proofs.laws.wrong_statements_are_said.Goals as goal

pub returns : goal.returns
returns c = wrong_statements_said
