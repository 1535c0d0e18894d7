use Rattle.std.proofs.Common.{sym, ◌∙◌}
use Rattle.device_template.proofs.Building.{by_notify, fits_none}
use Rattle.device_template.proofs.template.Template.set_notify.Goals as goal

pub invariant_of-self : goal.invariant_of-self
invariant_of-self c =
    by_notify _ _ _ _ c.args.seconds c.self.invariant
    (fits_none c.args.seconds (sym c.is_notify.ensures ∙ c.if-not-is_notify.false))
