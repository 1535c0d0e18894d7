-- The deeds of the observations before the place are worked out.
use Rattle.device_notifications.proofs.Planning.{Planned}
use Rattle.device_notifications.proofs.deeds.plan.Given as goal

abbrev pub invariant-loop-place : goal.invariant-loop-place
invariant-loop-place l =
    Planned l.client l.clock l.observations.list l.deeds.items l.fn.outbox l.outbox l.place
