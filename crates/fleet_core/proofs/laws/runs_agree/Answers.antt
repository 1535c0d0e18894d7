use Rattle.fleet_core.proofs.Agreeing.{same_made, made_within}
use Rattle.fleet_core.proofs.laws.runs_agree.Goals as goal

pub returns-clause-same : goal.returns-clause-same
returns-clause-same c = same_made

pub returns-clause-within : goal.returns-clause-within
returns-clause-within c = made_within
