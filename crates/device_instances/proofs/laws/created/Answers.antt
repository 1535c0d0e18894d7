use Rattle.device_instances.proofs.Rights.{there, stays, values_stay, none_else}
use Rattle.device_instances.proofs.laws.created.Goals as goal

pub returns-clause-there : goal.returns-clause-there
returns-clause-there c = there

pub returns-clause-others : goal.returns-clause-others
returns-clause-others c = λ s accounts server resources place given p has other. (
  stays s accounts server resources place given p has other,
  values_stay s accounts server resources place given p has other,
)

pub returns-clause-only : goal.returns-clause-only
returns-clause-only c = none_else
