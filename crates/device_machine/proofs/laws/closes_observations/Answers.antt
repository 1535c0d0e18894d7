use Rattle.device_machine.proofs.Closing.{acknowledgements, others, updates}
use Rattle.device_machine.proofs.laws.closes_observations.Goals as goal

pub returns-clause-acknowledged : goal.returns-clause-acknowledged
returns-clause-acknowledged c = acknowledgements

pub returns-clause-ignored : goal.returns-clause-ignored
returns-clause-ignored c = others

pub returns-clause-updated : goal.returns-clause-updated
returns-clause-updated c = updates
