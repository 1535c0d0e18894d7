use Rattle.expectations.proofs.Laid.{earlier_are_met}
use Rattle.expectations.proofs.laws.earlier_lines.Goals as goal

pub returns : goal.returns
returns c = earlier_are_met
