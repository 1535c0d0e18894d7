-- What a device sends of its own, and its message IDs (RFC 7252 section 4.4).
use Rattle.std.specs.Prelude.{ℕ, ◌+◌, ◌%◌, ◌<◌, ◌≤◌, List, [], ◌∷◌, ◌++◌, length}
use Rattle.device_notifications.specs.declared.datagram.Datagram.{Datagram}

-- the datagrams that are sent, in order, and the message ID of the next
pub record Outbox : Type 0 where
  pub sent : List Datagram
  pub next_id : ℕ

-- nothing is sent yet
abbrev pub empty : ℕ → Outbox
empty next_id = record { sent = []; next_id = next_id }

-- the message ID after this one, modulo 65,536
abbrev pub id_after : ℕ → ℕ
id_after next_id = (next_id + 1) % 65536

-- with one datagram more
abbrev pub after_post : Outbox → Datagram → Outbox
after_post box datagram = record { sent = box.sent ++ datagram ∷ []; next_id = id_after box.next_id }

-- with one more that is sent again: it has its message ID already
abbrev pub after_repost : Outbox → Datagram → Outbox
after_repost box datagram = record box { sent = box.sent ++ datagram ∷ [] }

-- a list that holds this many items, of those that it has room for, has room for these datagrams too, where they are
-- more than one: a single one needs no list
abbrev pub HasRoom : List Datagram → ℕ → ℕ → Type 0
HasRoom sent held room = 1 < length sent → held + length sent ≤ room
