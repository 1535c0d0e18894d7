-- The seconds up to this one have passed, and what was said of each observation is so. The list has room for what was
-- sent.
use Rattle.std.proofs.Common.{◌≡◌, ◌+◌, ◌-◌, ◌≤◌}
use Rattle.std.specs.Prelude.{vec_capacity, vec_len}
use Rattle.device_notifications.specs.Outlooks.{IsKnown}
use Rattle.device_notifications.specs.Outbox.{HasRoom, empty}
use Rattle.device_notifications.proofs.Jumps.{HavePassed}
use Rattle.device_notifications.proofs.sweep.seconds.Given as goal

abbrev pub invariant-loop-due : goal.invariant-loop-due
invariant-loop-due g l =
    HavePassed l.fn.client l.fn.clock l.fn.observations.list (empty l.fn.next_id)
    (l.now - l.fn.clock) l.observations.list
    l.outbox
    × IsKnown l.fn.client l.observations
    × (l.fn.clock ≤ l.now)
    × (l.now ≤ l.fn.clock + l.fn.count)
    × (l.list.items ≡ l.fn.list.items)
    × HasRoom l.outbox.sent (vec_len l.list) (vec_capacity l.list)

abbrev pub decreases-loop-due : goal.decreases-loop-due
decreases-loop-due g l = l.end - l.now
