use Rattle.laws_device.proofs.Served.{confirmable, non_confirmable, rejected}
use Rattle.laws_device.proofs.serving.refusals_are_bare.Goals as goal

pub returns-clause-confirmable : goal.returns-clause-confirmable
returns-clause-confirmable c = confirmable

pub returns-clause-non_confirmable : goal.returns-clause-non_confirmable
returns-clause-non_confirmable c = non_confirmable

pub returns-clause-rejected : goal.returns-clause-rejected
returns-clause-rejected c = rejected
