use Rattle.std.proofs.Common.{◌+◌, sym, subst}
use Rattle.fleet_core.specs.Board.{ShowsAfter}
use Rattle.fleet_core.proofs.held.make_copied.Goals as goal

pub returns-clause-shows : goal.returns-clause-shows
returns-clause-shows c = λ x is.
    subst (ShowsAfter c.args.scenario.now c.args.device (c.args.place + 1)) (sym (c.in_ok-copy.ensures.shown x is))
    c.in_ok-outputs.ensures.holds.shows
