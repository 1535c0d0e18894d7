use Rattle.laws_text.proofs.Faulted.{faults_are_first}
use Rattle.laws_text.proofs.laws.faults_are_first.Goals as goal

pub returns : goal.returns
returns c = faults_are_first
