-- The device shows the state after the steps before the index, and what they output is kept.
use Rattle.scenario_image.proofs.Played.{IsPlayed}
use Rattle.scenario_image.proofs.playing.take_steps.Given as goal

abbrev pub invariant-loop-step : goal.invariant-loop-step
invariant-loop-step l = IsPlayed l.fn.device l.device l.steps l.step-index l.all.items
