use Rattle.fleet_link.proofs.Tallied.{are_counted}
use Rattle.fleet_link.proofs.tally.Tally.counts.Goals as goal

pub returns-clause-counted : goal.returns-clause-counted
returns-clause-counted c = are_counted c.args.self.now.calls c.args.self.now.counts c.args.self.now.counted
