-- What a call leaves of what it works on.
use Rattle.std.specs.Prelude.{◌≡◌, ◌≢◌, ℕ, ◌+◌, ◌<◌, nat_lt, Bool, ◌||◌, ◌⊎◌, List, [], ◌++◌, length}
use Rattle.notifier.specs.declared.observation.Observation.{Observation}
use Rattle.device_notifications.specs.Outbox.{Outbox}
use Rattle.device_requests.specs.Client.{Client}
use Rattle.device_notifications.specs.Second.{Sweep, second, seconds}

-- after what was to be sent already stands what the turn sends, and the rest is as the turn leaves it
pub record Leaves (before : Outbox) (turn : Sweep) (left : List Observation) (after : Outbox) : Type 0 where
  pub sent : after.sent ≡ before.sent ++ turn.sent
  pub left_is : left ≡ turn.left
  pub next_id : after.next_id ≡ turn.next_id

-- something is sent, or one of the observations is removed
abbrev pub Acts : Sweep → List Observation → Type 0
Acts turn os = (turn.sent ≢ []) ⊎ (length turn.left < length os)

-- something is sent or removed, as a test
abbrev pub does_act : Sweep → List Observation → Bool
does_act turn os = nat_lt 0 (length turn.sent) || nat_lt (length turn.left) (length os)

-- memory runs out in one of the seconds, in which something is to be sent or an observation removed; nothing of it is
-- done, and the observations are as the seconds before it leave them
pub record StopsIn (client : Client) (clock count next_id : ℕ) (all left : List Observation) : Type 0 where
  pub passed : ℕ
  pub within : passed < count
  pub left_is : left ≡ (seconds client clock passed next_id all).left
  pub acts : Acts (second client (clock + (passed + 1)) (seconds client clock passed next_id all).next_id left) left
