use Rattle.notification_reasons.proofs.Reasoning.{single}
use Rattle.notification_reasons.proofs.laws.reasons_are_single.Goals as goal

pub returns : goal.returns
returns c = single
