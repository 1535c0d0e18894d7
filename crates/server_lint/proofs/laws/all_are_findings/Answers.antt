use Rattle.server_lint.proofs.Exactly.{all_hold}
use Rattle.server_lint.proofs.laws.all_are_findings.Goals as goal

pub returns : goal.returns
returns c = all_hold
