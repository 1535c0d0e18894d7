use Rattle.scenario_asm.specs.Canonical.{statements}
use Rattle.scenario_asm.proofs.ReadAgain.{lines_of, said_again, same_statements}
use Rattle.scenario_asm.proofs.Sayable.{all_said}
use Rattle.scenario_asm.proofs.laws.canonical_lines.Goals as goal

pub returns-clause-lines : goal.returns-clause-lines
returns-clause-lines c = λ s h. lines_of (statements s) (all_said s h)

pub returns-clause-read : goal.returns-clause-read
returns-clause-read c = λ s h. said_again (statements s) (all_said s h)

pub returns-clause-one : goal.returns-clause-one
returns-clause-one c = λ s t h k same. same_statements (statements s) (statements t) (all_said s h) (all_said t k) same
