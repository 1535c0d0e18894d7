-- What was said of the observations before the place is what their present answers are, where only the values at the
-- full paths have changed; of those from it on it is as before.
use Rattle.std.proofs.Common.{◌≡◌, length}
use Rattle.instance_store.specs.Stored.{Stored}
use Rattle.device_requests.specs.Client.{with_stored}
use Rattle.device_notifications.specs.Outlooks.{IsKnown}
use Rattle.device_notifications.specs.Reach.{DifferAt}
use Rattle.device_notifications.proofs.Reaching.{SaidBefore}
use Rattle.device_notifications.proofs.reach.say_reached.Given as goal

abbrev pub invariant-loop-place : goal.invariant-loop-place
invariant-loop-place l =
    (l.observations.list ≡ l.fn.observations.list)
    × ((before : Stored) → DifferAt l.paths before l.client.store
    → IsKnown (with_stored l.client before) l.fn.observations
    → SaidBefore l.client l.fn.observations.list l.fn.observations.said l.observations.said l.place)
