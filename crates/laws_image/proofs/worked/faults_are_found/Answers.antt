use Rattle.laws_image.proofs.ImageFaults.{faults}
use Rattle.laws_image.proofs.worked.faults_are_found.Goals as goal

pub returns : goal.returns
returns c = faults
