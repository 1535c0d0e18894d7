use Rattle.scenario_asm.proofs.Round.{canonical_again}
use Rattle.scenario_asm.proofs.laws.canonical_text.Goals as goal

pub returns : goal.returns
returns c = λ s is. canonical_again s is
