use Rattle.device_template.proofs.Building.{notify_fits}
use Rattle.device_template.proofs.template.Template.notify.Goals as goal

pub returns-clause-fits : goal.returns-clause-fits
returns-clause-fits c = notify_fits _ c.self.invariant
