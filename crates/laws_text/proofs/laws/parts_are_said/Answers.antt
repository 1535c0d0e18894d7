use Rattle.laws_text.proofs.Parted.{parts_are_said, parts_say_one}
use Rattle.laws_text.proofs.laws.parts_are_said.Goals as goal

pub returns-clause-said : goal.returns-clause-said
returns-clause-said c = parts_are_said

pub returns-clause-one : goal.returns-clause-one
returns-clause-one c = parts_say_one
