use Rattle.std.proofs.Common.{ap, ◌∙◌}
use Rattle.live_link.specs.Live.{packets_in}
use Rattle.live_link.proofs.serving.Serving.step.Goals as goal

pub returns-clause-output : goal.returns-clause-output
returns-clause-output c =
    λ f k. c.in_ok-packets.ensures ∙ ap packets_in (c.as_slice.ensures ∙ c.in_ok-outputs.ensures.outputs f k)
