-- What a request leaves, answered or refused (RFC 7252 sections 4 and 5; RFC 7641 section 3).
use Rattle.std.specs.Prelude.{◌≡◌, ℕ, ◌+◌, ◌%◌, true, false, ◌⊎◌, List, [], ◌∷◌, ◌++◌, Option, None, Some, is_some}
use Rattle.std.specs.Prelude.{option_map, if◌then◌else◌}
use Rattle.coap_codec.specs.Message.{Message, spelling}
use Rattle.coap_codec.specs.declared.kind.Kind.{Kind}
use Rattle.coap_codec.specs.declared.kind.Kind.TheVariants.{Con, Non, Ack}
use Rattle.object_defs.specs.Lines.{first_line}
use Rattle.object_defs.specs.declared.path.Path.{Path}
use Rattle.notifier.specs.Observed.{number_for, with_registered, without_cancelled}
use Rattle.notifier.specs.declared.observation.Observation.{Observation}
use Rattle.device_requests.specs.Answer.{code_byte, is_content}
use Rattle.device_requests.specs.Laws.{is_refusal, request_lines}
use Rattle.device_requests.specs.Observe.{interest_of}
use Rattle.device_requests.specs.Options.{has_unrecognized_critical}
use Rattle.device_requests.specs.Request.{outcome_of}
use Rattle.device_requests.specs.Ruling.{code_of}
use Rattle.device_requests.specs.declared.answer.Answer.{Answer}
use Rattle.device_requests.specs.declared.observe.Interest.TheVariants.{Cancel, Register}
use Rattle.device_requests.specs.declared.answer.Code.{Code}
use Rattle.device_requests.specs.declared.ruling.Ruling.{Ruling}
use Rattle.device_machine.specs.Laws.{IsFresh}
use Rattle.device_machine.specs.Observing.{lacks_place, new_observation}
use Rattle.device_machine.specs.Reactions.{flat_after, outputs_of, outputs_of_act, record_of, response, sent_to}
use Rattle.device_machine.specs.State.{DeviceState, Machine, with_client}
use Rattle.device_machine.specs.declared.event.Event.TheVariants.{Recv}

-- the message ID after this one, modulo 65,536
abbrev pub id_after : ℕ → ℕ
id_after next_id = (next_id + 1) % 65536

-- ---- refusals

-- the message of a refusal: this type and message ID, the token, the code, and neither option nor payload
abbrev pub bare_reply : Kind → ℕ → List ℕ → Code → Message
bare_reply kind mid token code =
    record { kind = kind; code = code_byte code; mid = mid; token = token; options = []; payload = [] }

-- all that a refused request leaves: this reply or none, and a record of the request with it; this is the device's next
-- message ID then; a Read with Observe 0 or 1 ends the observation of its name; all else is as it was
pub record IsRefused (f : Machine) (server : ℕ) (bytes : List ℕ) (m : Message) (reply : Option Message)
    (next_id : ℕ) : Type 0 where
  pub sent : outputs_of f (Recv server bytes) ≡ sent_to server (option_map spelling reply)
  pub recorded : (flat_after f (Recv server bytes)).recorded
      ≡ f.recorded ++ record_of f.kept server m (option_map spelling reply) ∷ []
  pub next_id_is : (flat_after f (Recv server bytes)).kept.next_id ≡ next_id
  pub observations : (flat_after f (Recv server bytes)).kept.observations
      ≡ (if is_some (interest_of m) then without_cancelled f.kept.observations server m.token else f.kept.observations)
  pub client : (flat_after f (Recv server bytes)).kept.client ≡ f.kept.client
  pub clock : (flat_after f (Recv server bytes)).kept.clock ≡ f.kept.clock

-- a confirmable request that is refused: an acknowledgement with its message ID, and the device's own stays (RFC 7252
-- section 5.2.1)
abbrev pub ConfirmableRefusals : Type 0
ConfirmableRefusals =
    (f : Machine) (server : ℕ) (bytes : List ℕ) (m : Message) (ruling : Ruling) → IsFresh f server bytes m
    → m.kind ≡ Con
    → first_line (request_lines f.kept.client server m) ≡ Some ruling → is_refusal (code_of ruling) ≡ true
    → IsRefused f server bytes m (Some (bare_reply Ack m.mid m.token (code_of ruling))) f.kept.next_id

-- a non-confirmable one: a message of the device's next message ID (section 5.2.3)
abbrev pub NonConfirmableRefusals : Type 0
NonConfirmableRefusals =
    (f : Machine) (server : ℕ) (bytes : List ℕ) (m : Message) (ruling : Ruling) → IsFresh f server bytes m
    → m.kind ≡ Non
    → has_unrecognized_critical m.options ≡ false
    → first_line (request_lines f.kept.client server m) ≡ Some ruling → is_refusal (code_of ruling) ≡ true
    → IsRefused f server bytes m (Some (bare_reply Non f.kept.next_id m.token (code_of ruling)))
    (id_after f.kept.next_id)

-- one with an option that must be understood and isn't: nothing (section 5.4.1)
abbrev pub NonConfirmableRejects : Type 0
NonConfirmableRejects =
    (f : Machine) (server : ℕ) (bytes : List ℕ) (m : Message) → IsFresh f server bytes m → m.kind ≡ Non
    → has_unrecognized_critical m.options ≡ true → IsRefused f server bytes m None f.kept.next_id

-- ---- any request

-- the reply to a request with this answer and Observe number, and the device's next message ID then: an acknowledgement
-- with the request's message ID, which leaves the device's own; a NON with the device's next; or nothing
pub data Replies (f : Machine) (m : Message) (number : Option ℕ) (answer : Answer) : Option Message → ℕ → Type 0 where
  acknowledges : m.kind ≡ Con
      → Replies f m number answer (Some (response Ack m.mid m.token number answer)) f.kept.next_id
  answers : m.kind ≡ Non → has_unrecognized_critical m.options ≡ false
      → Replies f m number answer (Some (response Non f.kept.next_id m.token number answer))
      (id_after f.kept.next_id)
  rejects : m.kind ≡ Non → has_unrecognized_critical m.options ≡ true → Replies f m number answer None f.kept.next_id

-- the Observe number of the reply to a request, and the observations then: as they were, where the request asks nothing
-- of one, or there is no place; without that of its name, where it cancels or its Read is not content; else with that
-- of its name, which begins anew
pub data Observes (kept : DeviceState) (server : ℕ) (m : Message) (answer : Answer)
    : Option ℕ → List Observation → Type 0 where
  asks_nothing : interest_of m ≡ None → Observes kept server m answer None kept.observations
  cancels : interest_of m ≡ Some Cancel
      → Observes kept server m answer None (without_cancelled kept.observations server m.token)
  is_refused : (path : Path) (accept : Option ℕ) → interest_of m ≡ Some (Register path accept)
      → is_content answer ≡ false
      → Observes kept server m answer None (without_cancelled kept.observations server m.token)
  finds_no_place : (path : Path) (accept : Option ℕ) → interest_of m ≡ Some (Register path accept)
      → is_content answer ≡ true → lacks_place kept.observations server m.token ≡ true
      → Observes kept server m answer None kept.observations
  registers : (path : Path) (accept : Option ℕ) → interest_of m ≡ Some (Register path accept)
      → is_content answer ≡ true → lacks_place kept.observations server m.token ≡ false
      → Observes kept server m answer (Some (number_for kept.observations server m.token))
      (with_registered kept.observations (new_observation kept server m path accept answer.payload))

-- all that a request leaves: the reply, after which the device may act; a record of the request with it; the device's
-- next message ID; the observations; what is managed, as the request changes it; and the clock as it was
pub record IsServed (f : Machine) (server : ℕ) (bytes : List ℕ) (m : Message) : Type 0 where
  pub number : Option ℕ
  pub reply : Option Message
  pub replies : Replies f m number (outcome_of f.kept.client server m).answer reply
      (flat_after f (Recv server bytes)).kept.next_id
  pub sent : outputs_of f (Recv server bytes)
      ≡ sent_to server (option_map spelling reply) ++ outputs_of_act (outcome_of f.kept.client server m).answer.act
  pub recorded : (flat_after f (Recv server bytes)).recorded
      ≡ f.recorded ++ record_of f.kept server m (option_map spelling reply) ∷ []
  pub observes : Observes (with_client f.kept (outcome_of f.kept.client server m).client) server m
      (outcome_of f.kept.client server m).answer number (flat_after f (Recv server bytes)).kept.observations
  pub client : (flat_after f (Recv server bytes)).kept.client ≡ (outcome_of f.kept.client server m).client
  pub clock : (flat_after f (Recv server bytes)).kept.clock ≡ f.kept.clock

-- so it is of each request that is no repeat
abbrev pub RequestsAreServed : Type 0
RequestsAreServed =
    (f : Machine) (server : ℕ) (bytes : List ℕ) (m : Message) → IsFresh f server bytes m
    → (m.kind ≡ Con) ⊎ (m.kind ≡ Non) → IsServed f server bytes m
