use Rattle.scenario_asm.proofs.Denoting.{denotes_so, so_denotes}
use Rattle.scenario_asm.proofs.laws.texts_denote.Goals as goal

pub returns : goal.returns
returns c = λ text s. (so_denotes text s, denotes_so text s)
