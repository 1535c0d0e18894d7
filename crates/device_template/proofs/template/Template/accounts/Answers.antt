use Rattle.std.proofs.Common.{subst}
use Rattle.device_template.specs.Built.{IsBuilt}
use Rattle.device_template.proofs.Ascending.{ascending}
use Rattle.device_template.proofs.template.Template.accounts.Goals as goal

pub returns-clause-ascending : goal.returns-clause-ascending
returns-clause-ascending c = ascending c.args.self.now (subst IsBuilt c.self.view_is c.self.invariant)
