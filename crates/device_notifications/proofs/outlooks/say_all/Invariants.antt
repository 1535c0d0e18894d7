-- What was said of the observations before the place is what their present answers are.
use Rattle.std.proofs.Common.{◌≡◌, length, take}
use Rattle.device_notifications.specs.Outlooks.{outlooks_of}
use Rattle.device_notifications.proofs.outlooks.say_all.Given as goal

abbrev pub invariant-loop-place : goal.invariant-loop-place
invariant-loop-place l =
    (l.observations.list ≡ l.fn.observations.list)
    × (take l.place l.observations.said ≡ outlooks_of l.client (take l.place l.fn.observations.list))
    × (length l.observations.said ≡ length l.fn.observations.list)
