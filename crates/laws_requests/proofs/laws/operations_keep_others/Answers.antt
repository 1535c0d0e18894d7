use Rattle.laws_requests.proofs.Changing.{others_kept}
use Rattle.laws_requests.proofs.laws.operations_keep_others.Goals as goal

pub returns : goal.returns
returns c = others_kept
