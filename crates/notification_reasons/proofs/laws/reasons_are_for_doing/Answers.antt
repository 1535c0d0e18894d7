use Rattle.notification_reasons.proofs.Reasoning.{for_doing, say_what_is_done}
use Rattle.notification_reasons.proofs.laws.reasons_are_for_doing.Goals as goal

pub returns-clause-exactly : goal.returns-clause-exactly
returns-clause-exactly c = for_doing

pub returns-clause-done : goal.returns-clause-done
returns-clause-done c = say_what_is_done
