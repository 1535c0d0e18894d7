use Rattle.std.proofs.Common.{sym, subst, refl, arith}
use Rattle.fleet_core.specs.Board.{ShowsAfter}
use Rattle.debugger.proofs.moves.device_after.Goals as goal

pub advance-requires-clause-shows : goal.advance-requires-clause-shows
advance-requires-clause-shows c =
    subst (ShowsAfter c.args.scenario.now c.args.device c.args.from) (sym c.in_ok-later.ensures) c.requires.shows

pub returns : goal.returns
returns c = record {
  device = refl;
  made = c.from.ensures;
  shows = c.in_ok-steps.ensures.shows;
  steps = omega (arith, c.in_ok-steps.ensures.count);
}
