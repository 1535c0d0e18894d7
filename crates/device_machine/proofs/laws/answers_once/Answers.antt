use Rattle.device_machine.proofs.Answering.{acknowledged, answered_non, rejected_non}
use Rattle.device_machine.proofs.laws.answers_once.Goals as goal

pub returns-clause-confirmable : goal.returns-clause-confirmable
returns-clause-confirmable c = acknowledged

pub returns-clause-non_confirmable : goal.returns-clause-non_confirmable
returns-clause-non_confirmable c = answered_non

pub returns-clause-rejected : goal.returns-clause-rejected
returns-clause-rejected c = rejected_non
