-- The deeds that were taken are done: before the place stands what they leave, and from it on what still stands.
use Rattle.std.proofs.Common.{◌≡◌, ◌≤◌, ◌++◌, length, take}
use Rattle.device_notifications.specs.Deeds.{left_by_all, said_by_all}
use Rattle.device_notifications.proofs.Planning.{Carried}
use Rattle.device_notifications.proofs.deeds.carry_out.Given as goal

abbrev pub invariant-loop-deed : goal.invariant-loop-deed
invariant-loop-deed l =
    Carried l.fn.observations.list l.observations.list
    (left_by_all l.fn.clock (take (length l.yielded) l.fn.observations.list) l.yielded) l.place (length l.yielded)
    × Carried l.fn.observations.said l.observations.said
    (said_by_all (take (length l.yielded) l.fn.observations.said) l.yielded) l.place (length l.yielded)
    × (l.place ≤ length l.yielded)
    × (l.fn.deeds.items ≡ l.yielded ++ l.deed-iterator.rest.items)
    × (length l.fn.observations.said ≡ length l.fn.observations.list)
