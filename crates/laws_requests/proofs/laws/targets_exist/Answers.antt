use Rattle.laws_requests.proofs.Targeting.{exists_within, what_exists, what_is_to_write}
use Rattle.laws_requests.proofs.laws.targets_exist.Goals as goal

pub returns-clause-exist : goal.returns-clause-exist
returns-clause-exist c = what_exists

pub returns-clause-write : goal.returns-clause-write
returns-clause-write c = what_is_to_write

pub returns-clause-within : goal.returns-clause-within
returns-clause-within c = exists_within
