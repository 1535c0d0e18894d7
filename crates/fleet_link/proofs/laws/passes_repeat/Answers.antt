use Rattle.fleet_link.proofs.Repeating.{passes_follow, passes_made}
use Rattle.fleet_link.proofs.laws.passes_repeat.Goals as goal

pub returns-clause-happened : goal.returns-clause-happened
returns-clause-happened c = passes_made

pub returns-clause-follow : goal.returns-clause-follow
returns-clause-follow c = passes_follow
