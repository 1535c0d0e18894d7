use Rattle.device_reasons.proofs.Reacting.{decides}
use Rattle.device_reasons.proofs.laws.reasons_decide.Goals as goal

pub returns : goal.returns
returns c = decides
