use Rattle.std.proofs.Common.{sym, ap, ◌∙◌}
use Rattle.fleet_core.specs.Held.{holding_of}
use Rattle.fleet_core.proofs.Holding.{started}
use Rattle.fleet_core.proofs.held.Held.start.Goals as goal

pub returns-clause-shows : goal.returns-clause-shows
returns-clause-shows c = λ k holds.
    started c.args.scenario.now c.args.device k c.args.self.now c.begin.new.self.shown
    holds (sym (ap (λ h. h.fresh) c.self.view_is) ∙ ap (λ s. (holding_of s).fresh) c.in-Fresh.is)
    c.in_ok-begin.ensures.begun
