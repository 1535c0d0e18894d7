use Rattle.expectations.proofs.Laid.{one_verdict}
use Rattle.expectations.proofs.laws.one_verdict.Goals as goal

pub returns : goal.returns
returns c = one_verdict
