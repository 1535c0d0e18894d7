-- Those that were taken out are in the queue, and there are fewer and fewer.
use Rattle.std.proofs.Common.{length}
use Rattle.fleet_core.proofs.Waking.{HaveMoved}
use Rattle.fleet_core.proofs.waiters.Waiters.wake.Given as goal

abbrev pub invariant-met : goal.invariant-met
invariant-met l = HaveMoved l.initial.self l.self l.initial.woken l.woken

abbrev pub decreases-met : goal.decreases-met
decreases-met l = length l.self
