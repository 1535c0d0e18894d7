-- What a device does on a datagram, in the words of RFC 7252 (sections 4 and 5): what arrives, and each part of the
-- reaction to it, by a definition of its own.
use Rattle.std.specs.Prelude.{◌≡◌, ℕ, ◌+◌, ◌-◌, ◌*◌, ◌/◌, ◌%◌, ◌<◌, ◌↔◌, true, false, ◌⊎◌, List, [], ◌∷◌, ◌++◌, Option}
use Rattle.std.specs.Prelude.{None, Some, option_map}
use Rattle.std.specs.List.{All, AllByRecursion}
use Rattle.coap_codec.specs.Message.{Message, Spells, spelling}
use Rattle.coap_codec.specs.declared.kind.Kind.{Kind}
use Rattle.coap_codec.specs.declared.kind.Kind.TheVariants.{Con, Non, Ack, Rst}
use Rattle.notifier.specs.Observed.{with_acknowledged, without_reset}
use Rattle.notifier.specs.declared.observation.Observation.{Observation}
use Rattle.device_notifications.specs.Message.{format_options, observe_options}
use Rattle.device_requests.specs.Answer.{code_byte}
use Rattle.device_requests.specs.Client.{Client, has_account}
use Rattle.device_requests.specs.Options.{has_unrecognized_critical}
use Rattle.device_requests.specs.Request.{outcome_of}
use Rattle.device_requests.specs.Ruling.{code_of}
use Rattle.device_requests.specs.declared.answer.Act.{Act as Deed}
use Rattle.device_requests.specs.declared.answer.Answer.{Answer}
use Rattle.device_machine.specs.Reactions.{Reaction, location_options, outputs_of_act, reaction_to, sent_to}
use Rattle.device_machine.specs.State.{Machine, lifetime, with_client}
use Rattle.device_machine.specs.declared.event.Event.TheVariants.{Recv}
use Rattle.device_machine.specs.declared.recorded.Recorded.{Recorded}
use Rattle.laws_device.specs.Serving.{Observes}

-- ---- what arrives

-- what is ignored; a confirmable message that is rejected by a Reset of this message ID; an Empty ACK, or an Empty
-- Reset, of this message ID; a request that repeats a recorded one; a request that repeats none
pub data Arrival : Type 0 where
  ignored : Arrival
  rejected : ℕ → Arrival
  empty_ack : ℕ → Arrival
  empty_reset : ℕ → Arrival
  repeated : Message → Recorded → Arrival
  fresh : Message → Arrival

-- the message spelled by the bytes, from a server that has an account
pub record Brings (f : Machine) (server : ℕ) (bytes : List ℕ) (m : Message) : Type 0 where
  pub account : has_account f.kept.client server ≡ true
  pub spelled : Spells bytes m

-- the codes of requests, from 0.01 to 0.31 (section 12.1)
abbrev pub IsMethod : ℕ → Type 0
IsMethod code = (0 < code) × (code < 32)

-- a request, which a confirmable or a non-confirmable message carries
pub record BringsRequest (f : Machine) (server : ℕ) (bytes : List ℕ) (m : Message) : Type 0 where
  pub brings : Brings f server bytes m
  pub carries : (m.kind ≡ Con) ⊎ (m.kind ≡ Non)
  pub method : IsMethod m.code

-- bytes that do not spell a message, from a server that has an account
pub record BringsNoMessage (f : Machine) (server : ℕ) (bytes : List ℕ) : Type 0 where
  pub account : has_account f.kept.client server ≡ true
  pub spelled : (m : Message) → Spells bytes m → ⊥

-- the bytes begin as a confirmable message of this message ID: version 1, type 0 (section 3)
pub record BeginsConfirmable (bytes : List ℕ) (mid : ℕ) : Type 0 where
  pub first : ℕ
  pub code : ℕ
  pub high : ℕ
  pub low : ℕ
  pub rest : List ℕ
  pub header : bytes ≡ first ∷ code ∷ high ∷ low ∷ rest
  pub version : first / 64 ≡ 1
  pub confirmable : first / 16 % 4 ≡ 0
  pub mid_is : mid ≡ 256 * high + low

-- a recorded request has the type and the message ID of this one, from the same server, and its lifetime has not
-- elapsed (section 4.5)
pub record IsRepeated (f : Machine) (server : ℕ) (m : Message) (r : Recorded) : Type 0 where
  pub server_is : r.server ≡ server
  pub kind_is : r.kind ≡ m.kind
  pub mid_is : r.mid ≡ m.mid
  pub lives : f.kept.clock - r.second < lifetime r.kind

abbrev pub IsNotRepeated : Machine → ℕ → Message → Recorded → Type 0
IsNotRepeated f server m r = IsRepeated f server m r → ⊥

-- the oldest of those that it repeats
pub record IsOldest (f : Machine) (server : ℕ) (m : Message) (r : Recorded) : Type 0 where
  pub before : List Recorded
  pub after : List Recorded
  pub parts : f.recorded ≡ before ++ r ∷ after
  pub repeats : IsRepeated f server m r
  pub no_older : AllByRecursion (IsNotRepeated f server m) before

-- what a datagram is to a device: rejected are a confirmable message that is not a request, such as a ping, and bytes
-- that begin as a confirmable message and are not one (sections 4.2 and 4.3); ignored are what comes from a server
-- without an account, any other message that is neither a request nor an Empty ACK nor an Empty Reset, and any other
-- bytes
pub data IsArrival (f : Machine) (server : ℕ) (bytes : List ℕ) : Arrival → Type 0 where
  of_stranger : has_account f.kept.client server ≡ false → IsArrival f server bytes ignored
  malformed : (mid : ℕ) → BringsNoMessage f server bytes → BeginsConfirmable bytes mid
      → IsArrival f server bytes (rejected mid)
  malformed_otherwise : BringsNoMessage f server bytes → ((mid : ℕ) → BeginsConfirmable bytes mid → ⊥)
      → IsArrival f server bytes ignored
  confirmable_otherwise : (m : Message) → Brings f server bytes m → m.kind ≡ Con → (IsMethod m.code → ⊥)
      → IsArrival f server bytes (rejected m.mid)
  non_confirmable_otherwise : (m : Message) → Brings f server bytes m → m.kind ≡ Non → (IsMethod m.code → ⊥)
      → IsArrival f server bytes ignored
  acknowledges : (m : Message) → Brings f server bytes m → m.kind ≡ Ack → m.code ≡ 0
      → IsArrival f server bytes (empty_ack m.mid)
  acknowledges_otherwise : (m : Message) → Brings f server bytes m → m.kind ≡ Ack → (m.code ≡ 0 → ⊥)
      → IsArrival f server bytes ignored
  resets : (m : Message) → Brings f server bytes m → m.kind ≡ Rst → m.code ≡ 0
      → IsArrival f server bytes (empty_reset m.mid)
  resets_otherwise : (m : Message) → Brings f server bytes m → m.kind ≡ Rst → (m.code ≡ 0 → ⊥)
      → IsArrival f server bytes ignored
  asks_again : (m : Message) (r : Recorded) → BringsRequest f server bytes m → IsOldest f server m r
      → IsArrival f server bytes (repeated m r)
  asks : (m : Message) → BringsRequest f server bytes m → AllByRecursion (IsNotRepeated f server m) f.recorded
      → IsArrival f server bytes (fresh m)

-- ---- the reaction to it

-- an Empty Reset of a message ID (section 4.2)
abbrev pub rejection : ℕ → Message
rejection mid = record { kind = Rst; code = 0; mid = mid; token = []; options = []; payload = [] }

-- a repeated confirmable request gets the recorded reply again, a non-confirmable one nothing (section 4.5)
abbrev pub reply_again : Kind → Option (List ℕ) → Option (List ℕ)
reply_again Con reply = reply
reply_again kind reply = None

-- the message of a response: the token is that of the request (section 5.3.1), and the options stand in the order of
-- their numbers, Observe, Location-Path and Content-Format
pub record IsResponse (kind : Kind) (mid : ℕ) (m : Message) (number : Option ℕ) (answer : Answer) (r : Message)
    : Type 0 where
  pub kind_is : r.kind ≡ kind
  pub mid_is : r.mid ≡ mid
  pub token : r.token ≡ m.token
  pub code : r.code ≡ code_byte (code_of answer.ruling)
  pub options : r.options
      ≡ observe_options number ++ (location_options answer.location ++ format_options answer.format)
  pub payload : r.payload ≡ answer.payload

-- the response to a new request, and the device's next message ID then: in the acknowledgement of a confirmable
-- request, with its message ID (section 5.2.1); in a NON of the device's next message ID (section 5.2.3); none, where a
-- NON has an option that must be understood and isn't (section 5.4.1)
pub data RespondsBy (f : Machine) (m : Message) (number : Option ℕ) (answer : Answer)
    : Option Message → ℕ → Type 0 where
  piggybacks : (r : Message) → m.kind ≡ Con → IsResponse Ack m.mid m number answer r
      → RespondsBy f m number answer (Some r) f.kept.next_id
  sends_non : (r : Message) → m.kind ≡ Non → has_unrecognized_critical m.options ≡ false
      → IsResponse Non f.kept.next_id m number answer r
      → RespondsBy f m number answer (Some r) ((f.kept.next_id + 1) % 65536)
  sends_none : m.kind ≡ Non → has_unrecognized_critical m.options ≡ true
      → RespondsBy f m number answer None f.kept.next_id

-- the reply with this Observe number, and the device's next message ID then
abbrev pub Responds : Machine → ℕ → Option ℕ → Arrival → Option (List ℕ) → ℕ → Type 0
Responds f server number ignored reply next_id = (reply ≡ None) × (next_id ≡ f.kept.next_id)
Responds f server number (rejected mid) reply next_id =
    (reply ≡ Some (spelling (rejection mid))) × (next_id ≡ f.kept.next_id)
Responds f server number (empty_ack mid) reply next_id = (reply ≡ None) × (next_id ≡ f.kept.next_id)
Responds f server number (empty_reset mid) reply next_id = (reply ≡ None) × (next_id ≡ f.kept.next_id)
Responds f server number (repeated m r) reply next_id =
    (reply ≡ reply_again m.kind r.reply) × (next_id ≡ f.kept.next_id)
Responds f server number (fresh m) reply next_id =
    (response : Option Message)
    × RespondsBy f m number (outcome_of f.kept.client server m).answer response next_id
    × (reply ≡ option_map spelling response)

-- the device acts as a new request asks
abbrev pub act_on : Machine → ℕ → Arrival → Option Deed
act_on f server (fresh m) = (outcome_of f.kept.client server m).answer.act
act_on f server arrival = None

-- a new request is recorded with its reply
abbrev pub recorded_on : Machine → ℕ → Option (List ℕ) → Arrival → List Recorded
recorded_on f server reply (fresh m) =
    record { server = server; kind = m.kind; mid = m.mid; second = f.kept.clock; reply = reply } ∷ []
recorded_on f server reply arrival = []

-- what is managed is changed by new requests alone
abbrev pub client_on : Machine → ℕ → Arrival → Client
client_on f server (fresh m) = (outcome_of f.kept.client server m).client
client_on f server arrival = f.kept.client

-- the observations then: an Empty ACK closes those whose last message is a CON to its server with its message ID that
-- is still open (section 4.2), an Empty Reset ends those whose last message was a NON to its server with its message
-- ID, or is such a CON, and a new request leaves what its Observe and its answer say (RFC 7641 section 3)
abbrev pub LeavesObservations : Machine → ℕ → Option ℕ → Arrival → List Observation → Type 0
LeavesObservations f server number ignored left = left ≡ f.kept.observations
LeavesObservations f server number (rejected mid) left = left ≡ f.kept.observations
LeavesObservations f server number (empty_ack mid) left = left ≡ with_acknowledged f.kept.observations server mid
LeavesObservations f server number (empty_reset mid) left = left ≡ without_reset f.kept.observations server mid
LeavesObservations f server number (repeated m r) left = left ≡ f.kept.observations
LeavesObservations f server number (fresh m) left =
    Observes (with_client f.kept (outcome_of f.kept.client server m).client) server m
    (outcome_of f.kept.client server m).answer number left

-- the reaction to an arrival: the reply is sent, after which the device may act; and this is the flat state then
pub record IsReactionTo (f : Machine) (server : ℕ) (arrival : Arrival) (reaction : Reaction) : Type 0 where
  pub number : Option ℕ
  pub reply : Option (List ℕ)
  pub responds : Responds f server number arrival reply reaction.flat.kept.next_id
  pub sent : reaction.outputs ≡ sent_to server reply ++ outputs_of_act (act_on f server arrival)
  pub recorded : reaction.flat.recorded ≡ f.recorded ++ recorded_on f server reply arrival
  pub observations : LeavesObservations f server number arrival reaction.flat.kept.observations
  pub client : reaction.flat.kept.client ≡ client_on f server arrival
  pub clock : reaction.flat.kept.clock ≡ f.kept.clock

-- the reaction to a datagram
pub record IsReaction (f : Machine) (server : ℕ) (bytes : List ℕ) (reaction : Reaction) : Type 0 where
  pub arrival : Arrival
  pub arrives : IsArrival f server bytes arrival
  pub reacts : IsReactionTo f server arrival reaction

-- a device reacts exactly so to bytes
abbrev pub ReactionsAreSaid : Type 0
ReactionsAreSaid =
    (f : Machine) (server : ℕ) (bytes : List ℕ) (reaction : Reaction) → All (λ b. b < 256) bytes
    → (reaction ≡ reaction_to f (Recv server bytes)) ↔ IsReaction f server bytes reaction

-- so there is one
abbrev pub ReactionsAreOne : Type 0
ReactionsAreOne =
    (f : Machine) (server : ℕ) (bytes : List ℕ) (one other : Reaction) → All (λ b. b < 256) bytes
    → IsReaction f server bytes one → IsReaction f server bytes other → one ≡ other

-- and bytes are one arrival
abbrev pub ArrivalsAreOne : Type 0
ArrivalsAreOne =
    (f : Machine) (server : ℕ) (bytes : List ℕ) (one other : Arrival) → All (λ b. b < 256) bytes
    → IsArrival f server bytes one → IsArrival f server bytes other → one ≡ other
