use Rattle.expectations.proofs.Laid.{later_change_nothing}
use Rattle.expectations.proofs.laws.later_arrivals.Goals as goal

pub returns : goal.returns
returns c = later_change_nothing
