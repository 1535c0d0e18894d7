-- What a datagram is to an earlier one.
use Rattle.std.specs.Prelude.{ℕ, ◌==◌, nat_lt, Bool, true, false, not, ◌&&◌, Option, None, Some}
use Rattle.std.specs.Cmp.Lexicographic.{pointwise}
use Rattle.coap_codec.specs.declared.kind.Kind.{Kind}
use Rattle.coap_codec.specs.declared.kind.Kind.TheVariants.{Con, Non, Ack, Rst}
use Rattle.coap_codec.specs.Message.{Message}
use Rattle.server_lint.specs.declared.sender.Sender.{Sender}
use Rattle.server_lint.specs.declared.sender.Sender.TheVariants.{Server, Device}
use Rattle.server_lint.specs.History.{Transmission, message_of, seconds_since}
use Rattle.server_lint.specs.Single.{has_own_id, is_from_server, is_reset}

-- for how many seconds a message ID is not used again: EXCHANGE_LIFETIME of a confirmable message, NON_LIFETIME of
-- another (RFC 7252 sections 4.4 and 4.8.2); the others have none of their own
abbrev pub id_lifetime : Kind → ℕ
id_lifetime Con = 247
id_lifetime Non = 145
id_lifetime Ack = 0
id_lifetime Rst = 0

abbrev pub is_same_sender : Sender → Sender → Bool
is_same_sender Server Server = true
is_same_sender Server Device = false
is_same_sender Device Server = false
is_same_sender Device Device = true

abbrev pub has_same_bytes : Transmission → Transmission → Bool
has_same_bytes earlier t = pointwise ◌==◌ earlier.bytes t.bytes

-- it is the earlier one again, fewer than n seconds after it: between the same device and server, in the same
-- direction, with the same bytes
abbrev pub is_again_within : ℕ → Transmission → Transmission → Bool
is_again_within seconds earlier t =
    nat_lt (seconds_since earlier t) seconds
    && (is_same_sender earlier.sender t.sender && (earlier.server == t.server && has_same_bytes earlier t))

-- the message has the ID of the earlier one, n seconds after it, whose lifetime has not elapsed
abbrev pub has_live_id : ℕ → Option Message → Option Message → Bool
has_live_id seconds None m = false
has_live_id seconds (Some earlier) None = false
has_live_id seconds (Some earlier) (Some m) =
    has_own_id m.kind && (earlier.mid == m.mid && nat_lt seconds (id_lifetime earlier.kind))

-- the server used its message ID in the earlier one, for other bytes (RFC 7252 section 4.4)
abbrev pub reuses_id : Transmission → Transmission → Bool
reuses_id earlier t =
    is_from_server earlier
    && (is_from_server t
    && (earlier.server == t.server
    && (has_live_id (seconds_since earlier t) (message_of earlier) (message_of t) && not (has_same_bytes earlier t))))

-- which type may answer which: an acknowledgement what is confirmable, a reset what has an ID of its own (RFC 7252
-- sections 4.2 and 4.3)
abbrev pub may_answer : Kind → Kind → Bool
may_answer Con Ack = true
may_answer Con Rst = true
may_answer Non Rst = true
may_answer _ _ = false

-- the message answers the earlier one by its ID, n seconds after it, whose lifetime has not elapsed
abbrev pub has_id_answered : ℕ → Option Message → Option Message → Bool
has_id_answered seconds None m = false
has_id_answered seconds (Some earlier) None = false
has_id_answered seconds (Some earlier) (Some m) =
    may_answer earlier.kind m.kind && (earlier.mid == m.mid && nat_lt seconds (id_lifetime earlier.kind))

-- a server acknowledges or resets what the device sent to it (RFC 7252 section 4.2)
abbrev pub answers : Transmission → Transmission → Bool
answers earlier t =
    not (is_from_server earlier)
    && (is_from_server t
    && (earlier.server == t.server
    && has_id_answered (seconds_since earlier t) (message_of earlier) (message_of t)))

-- for how many seconds a message ID is not used again after this one
abbrev pub lifetime_of : Option Message → ℕ
lifetime_of None = 0
lifetime_of (Some m) = id_lifetime m.kind

-- it is the earlier one again, whose lifetime has not elapsed (RFC 7252 section 4.5)
abbrev pub is_repeat : Transmission → Transmission → Bool
is_repeat earlier t = is_again_within (lifetime_of (message_of t)) earlier t

-- an acknowledgement or a reset with the message ID of the earlier one
abbrev pub replies_by_id : Option Message → Option Message → Bool
replies_by_id None m = false
replies_by_id (Some earlier) None = false
replies_by_id (Some earlier) (Some m) = not (has_own_id m.kind) && earlier.mid == m.mid

-- the device acknowledges or resets what the server sent (RFC 7252 section 4.2)
abbrev pub replies : Transmission → Transmission → Bool
replies earlier t =
    not (is_from_server t)
    && (earlier.server == t.server && replies_by_id (message_of earlier) (message_of t))

-- a server resets what the device sent (RFC 7252 sections 4.2 and 4.3)
abbrev pub resets : Transmission → Transmission → Bool
resets earlier t = is_reset (message_of t) && answers earlier t
