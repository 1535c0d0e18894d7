use Rattle.access_control.proofs.Lowest.{lowest_decides, none_decides}
use Rattle.access_control.proofs.laws.deciding.Goals as goal

pub returns-clause-lowest : goal.returns-clause-lowest
returns-clause-lowest c = lowest_decides

pub returns-clause-none : goal.returns-clause-none
returns-clause-none c = none_decides
