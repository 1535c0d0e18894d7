use Rattle.scenario_asm.proofs.Limits.{limits_named}
use Rattle.scenario_asm.proofs.laws.limits_are_named.Goals as goal

pub returns : goal.returns
returns c = λ s d h. limits_named s d h
