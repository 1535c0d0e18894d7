-- What the call leaves is what it leaves of those that are still there; and there was one of the name, or it is still
-- there.
use Rattle.std.proofs.Common.{◌≡◌, ◌||◌, length}
use Rattle.notifier.specs.Observed.{has_name, is_named, without_cancelled}
use Rattle.notifier.specs.Said.{said_without}
use Rattle.notifier.proofs.observations.Observations.cancel.Given as goal

abbrev pub invariant-loop-place : goal.invariant-loop-place
invariant-loop-place l =
    (without_cancelled l.self.list l.server l.token ≡ without_cancelled l.fn.self.list l.server l.token)
    × (said_without (is_named l.server l.token) l.self.list l.self.said
    ≡ said_without (is_named l.server l.token) l.fn.self.list l.fn.self.said)
    × (has_name l.fn.self.list l.server l.token ≡ (l.held || has_name l.self.list l.server l.token))

abbrev pub decreases-loop-place : goal.decreases-loop-place
decreases-loop-place l = length l.self.list
