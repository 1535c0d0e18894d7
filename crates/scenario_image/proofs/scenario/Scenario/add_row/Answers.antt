use Rattle.std.proofs.Common.{sym, ◌∙◌}
use Rattle.scenario_image.proofs.Valid.{by_row}
use Rattle.scenario_image.proofs.scenario.Scenario.add_row.Goals as goal

pub invariant_of-self-2 : goal.invariant_of-self-2
invariant_of-self-2 c =
    by_row _ _ _ c.args.self.now c.args.class c.self.invariant c.self.view_is
    (sym c.row_fault.ensures ∙ c.in_default.is) (rw (← c.new.ensures) c.in_ok-push.ensures.items)
