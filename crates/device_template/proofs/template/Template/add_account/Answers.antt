use Rattle.std.proofs.Common.{sym, ◌∙◌}
use Rattle.device_template.proofs.Building.{by_account}
use Rattle.device_template.proofs.template.Template.add_account.Goals as goal

pub invariant_of-self-2 : goal.invariant_of-self-2
invariant_of-self-2 c =
    by_account _ _ _ _ _ c.args.self.now c.args.server c.self.invariant c.self.view_is
    (sym c.account_fault.ensures ∙ c.in_default.is) c.in_ok-insert.ensures.ok
