use Rattle.laws_device.proofs.Settled.{just_reported, settled_are_quiet}
use Rattle.laws_device.proofs.notifying.settled_are_quiet.Goals as goal

pub returns-clause-quiet : goal.returns-clause-quiet
returns-clause-quiet c = settled_are_quiet

pub returns-clause-reported : goal.returns-clause-reported
returns-clause-reported c = just_reported
