-- The first second at which one of the observations before the place is due.
use Rattle.std.proofs.Common.{take}
use Rattle.notification_times.specs.First.{IsFirst}
use Rattle.notifier.specs.Due.{is_one_due}
use Rattle.notifier.proofs.observations.Observations.due.Given as goal

abbrev pub invariant-loop-place : goal.invariant-loop-place
invariant-loop-place l = IsFirst (is_one_due (take l.place l.self.list) (take l.place l.self.said)) l.now l.first
