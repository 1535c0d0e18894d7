use Rattle.std.proofs.Common.{sym, ap, subst, ◌∙◌}
use Rattle.fleet_core.specs.Board.{ShowsAfter}
use Rattle.fleet_core.specs.Held.{holding_of}
use Rattle.fleet_core.proofs.Taken.{row_below}
use Rattle.fleet_core.proofs.Holding.{not_gone}
use Rattle.fleet_core.proofs.held.step_held.Goals as goal

pub start-requires-clause-row : goal.start-requires-clause-row
start-requires-clause-row c =
    row_below c.args.scenario.now c.args.device c.args.place c.args.step.now c.requires.stands

pub start-requires-clause-left : goal.start-requires-clause-left
start-requires-clause-left c =
    not_gone c.args.scenario.now c.args.device c.args.place c.args.step.now c.args.held.now c.requires.stands
    c.requires.holds

pub make_step-requires-clause-shows : goal.make_step-requires-clause-shows
make_step-requires-clause-shows c =
    subst (ShowsAfter c.args.scenario.now c.args.device c.args.place)
    (sym (ap (λ h. h.shown) c.held.view_is) ∙ ap (λ s. (holding_of s).shown) c.in-Here.is)
    (c.in_ok-start.ensures.shows c.args.place c.requires.holds)
