-- What is told is what the observations before this one send.
use Rattle.std.proofs.Common.{take}
use Rattle.device_notifications.specs.Outlooks.{IsKnown}
use Rattle.notification_reasons.specs.Happenings.{AreHappenings}
use Rattle.notification_reasons.proofs.ticks.second_happenings.Given as goal

abbrev pub invariant-loop-place : goal.invariant-loop-place
invariant-loop-place l =
    IsKnown l.client l.observations
    → AreHappenings l.client l.clock (take l.place l.observations.list) l.happenings.items
