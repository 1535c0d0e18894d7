use Rattle.laws_reading.proofs.Saying.{changes_are_said, first_fault_decides}
use Rattle.laws_reading.proofs.laws.first_fault_decides.Goals as goal

pub returns-clause-changes : goal.returns-clause-changes
returns-clause-changes c = changes_are_said

pub returns-clause-fault : goal.returns-clause-fault
returns-clause-fault c = first_fault_decides
