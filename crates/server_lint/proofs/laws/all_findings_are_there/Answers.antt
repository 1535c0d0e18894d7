use Rattle.server_lint.proofs.Exactly.{all_there}
use Rattle.server_lint.proofs.laws.all_findings_are_there.Goals as goal

pub returns : goal.returns
returns c = all_there
