-- Those that were taken out are candidates, and there are fewer and fewer.
use Rattle.std.proofs.Common.{length}
use Rattle.shared_trace.proofs.Waits.{HaveMoved}
use Rattle.shared_trace.proofs.wait_queue.WaitQueue.wake.Given as goal

abbrev pub invariant-met : goal.invariant-met
invariant-met l = HaveMoved l.initial.self.pairs l.self.pairs l.initial.candidates l.candidates l.posts

abbrev pub decreases-met : goal.decreases-met
decreases-met l = length l.self.pairs
