-- What the call leaves is what it leaves of those that are still there.
use Rattle.std.proofs.Common.{◌≡◌, length}
use Rattle.notifier.specs.Observed.{was_sent, without_reset}
use Rattle.notifier.specs.Said.{said_without}
use Rattle.notifier.proofs.observations.Observations.reset.Given as goal

abbrev pub invariant-loop-place : goal.invariant-loop-place
invariant-loop-place l =
    (without_reset l.self.list l.server l.mid ≡ without_reset l.fn.self.list l.server l.mid)
    × (said_without (was_sent l.server l.mid) l.self.list l.self.said
    ≡ said_without (was_sent l.server l.mid) l.fn.self.list l.fn.self.said)

abbrev pub decreases-loop-place : goal.decreases-loop-place
decreases-loop-place l = length l.self.list
