use Rattle.expectations.proofs.Settled.{settled_stay}
use Rattle.expectations.proofs.laws.settled_verdicts.Goals as goal

pub returns : goal.returns
returns c = settled_stay
