use Rattle.std.proofs.Common.{refl, arith}
use Rattle.debugger.proofs.moves.device_before.Goals as goal

pub returns : goal.returns
returns c = record {
  device = refl;
  made = c.from-made.ensures;
  shows = c.in_ok-steps.ensures.shows;
  steps = omega (arith, c.in_ok-steps.ensures.count);
}
