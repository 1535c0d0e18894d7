-- There are no more groups than there are to be.
use Rattle.std.proofs.Common.{◌-◌, ◌≤◌, length}
use Rattle.fleet_core.proofs.roster.no_waiters.Given as goal

abbrev pub invariant-groups : goal.invariant-groups
invariant-groups l = length l.waiting.items ≤ 256

abbrev pub decreases-groups : goal.decreases-groups
decreases-groups l = 256 - length l.waiting.items
