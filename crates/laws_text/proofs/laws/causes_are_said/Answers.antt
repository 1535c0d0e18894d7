use Rattle.laws_text.proofs.Caused.{causes_are_said, lines_are_said}
use Rattle.laws_text.proofs.laws.causes_are_said.Goals as goal

pub returns-clause-lines : goal.returns-clause-lines
returns-clause-lines c = lines_are_said

pub returns-clause-causes : goal.returns-clause-causes
returns-clause-causes c = causes_are_said
