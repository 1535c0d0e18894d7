use Rattle.laws_tables.proofs.Triggering.{by_saying, by_age}
use Rattle.laws_tables.proofs.triggers.triggers_are_said.Goals as goal

pub returns-clause-trigger : goal.returns-clause-trigger
returns-clause-trigger c = by_saying

pub returns-clause-periods : goal.returns-clause-periods
returns-clause-periods c = by_age
