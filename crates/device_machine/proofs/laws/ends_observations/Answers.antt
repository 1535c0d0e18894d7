use Rattle.device_machine.proofs.Refusing.{cancels, resets}
use Rattle.device_machine.proofs.laws.ends_observations.Goals as goal

pub returns-clause-cancelled : goal.returns-clause-cancelled
returns-clause-cancelled c = cancels

pub returns-clause-reset : goal.returns-clause-reset
returns-clause-reset c = resets
