use Rattle.scenario_asm.proofs.Sayable.{all_said}
use Rattle.scenario_asm.proofs.laws.statements_are_sayable.Goals as goal

pub returns : goal.returns
returns c = λ s h. all_said s h
