-- n turns were made.
use Rattle.live_link.specs.Serving.{IsUnderWay}
use Rattle.live_link.proofs.serving.serve.Given as goal

abbrev pub invariant-loop-turn : goal.invariant-loop-turn
invariant-loop-turn g l =
    IsUnderWay l.fn.device (g.W.Wire.told l.fn.wire) (g.C.Seconds.read l.fn.clock) l._turn l.serving.device
    l.serving.counted l.serving.steps.items l.serving.sent.items (g.W.Wire.told l.wire) (g.C.Seconds.read l.clock)
