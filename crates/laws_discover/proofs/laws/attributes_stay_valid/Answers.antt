use Rattle.laws_discover.proofs.Validity.{kept_valid, none_valid}
use Rattle.laws_discover.proofs.laws.attributes_stay_valid.Goals as goal

pub returns-clause-start : goal.returns-clause-start
returns-clause-start c = none_valid

pub returns-clause-requests : goal.returns-clause-requests
returns-clause-requests c = kept_valid
