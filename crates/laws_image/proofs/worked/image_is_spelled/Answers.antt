use Rattle.laws_image.proofs.ImageRead.{spelled, spelled_empty}
use Rattle.laws_image.proofs.worked.image_is_spelled.Goals as goal

pub returns-clause-worked : goal.returns-clause-worked
returns-clause-worked c = spelled

pub returns-clause-empty : goal.returns-clause-empty
returns-clause-empty c = spelled_empty
