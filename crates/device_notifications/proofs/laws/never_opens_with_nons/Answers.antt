use Rattle.device_notifications.proofs.Nons.{evaluates, stays_closed}
use Rattle.device_notifications.proofs.laws.never_opens_with_nons.Goals as goal

pub returns-clause-turn : goal.returns-clause-turn
returns-clause-turn c = evaluates

pub returns-clause-closed : goal.returns-clause-closed
returns-clause-closed c = stays_closed
