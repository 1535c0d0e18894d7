-- The message IDs of what a device sends (RFC 7252 sections 4.2 to 4.5).
use Rattle.std.specs.Prelude.{◌≡◌, ◌≢◌, ℕ, ◌+◌, ◌%◌, ◌<◌, ◌↔◌, true, List, [], ◌∷◌, ◌++◌, slice_get, Some}
use Rattle.std.specs.List.{All, AllByRecursion, Contains}
use Rattle.coap_codec.specs.Message.{Message, spelling}
use Rattle.coap_codec.specs.declared.kind.Kind.TheVariants.{Con, Non, Ack, Rst}
use Rattle.notifier.specs.declared.observation.Observation.{Observation}
use Rattle.notifier.specs.declared.observation.Timer.{Timer}
use Rattle.device_requests.specs.declared.answer.Act.{Act as Deed}
use Rattle.device_template.specs.Template.{Template}
use Rattle.device_machine.specs.declared.event.Event.{Event}
use Rattle.device_machine.specs.declared.event.Event.TheVariants.{Firmware, Put, Recv, Tick}
use Rattle.device_machine.specs.declared.output.Output.{Output}
use Rattle.device_machine.specs.declared.output.Output.TheVariants.{Act, Send}
use Rattle.device_machine.specs.declared.recorded.Recorded.{Recorded}
use Rattle.device_machine.specs.Reactions.{flat_after, outputs_of}
use Rattle.device_machine.specs.State.{Machine}
use Rattle.device_machine.specs.Template.{start_of}
use Rattle.laws_device.specs.Receiving.{BeginsConfirmable}
use Rattle.laws_device.specs.Serving.{id_after}

-- ---- an event

-- what arrives are bytes
abbrev pub ArrivesInBytes : Event → Type 0
ArrivesInBytes (Recv server bytes) = All (λ b. b < 256) bytes
ArrivesInBytes (Put path value) = Unit {0}
ArrivesInBytes (Firmware code) = Unit {0}
ArrivesInBytes (Tick n) = Unit {0}

-- a confirmable message of this message ID arrives from this server
abbrev pub BringsConfirmable : Event → ℕ → ℕ → Type 0
BringsConfirmable (Recv from bytes) server mid = (server ≡ from) × BeginsConfirmable bytes mid
BringsConfirmable (Put path value) server mid = ⊥
BringsConfirmable (Firmware code) server mid = ⊥
BringsConfirmable (Tick n) server mid = ⊥

-- the message IDs that a device gives to an output on an event, after these outputs: one to a NON, and one to a CON;
-- none to a CON that it sends again, byte for byte and to the same server, nor to an ACK and a Reset, which have that
-- of the confirmable message that they answer
pub data Gives (event : Event) (before : List Output) : Output → List ℕ → Type 0 where
  to_non : (server : ℕ) (m : Message) → m.kind ≡ Non → Gives event before (Send server (spelling m)) (m.mid ∷ [])
  to_con : (server : ℕ) (m : Message) → m.kind ≡ Con → Gives event before (Send server (spelling m)) (m.mid ∷ [])
  none_again : (server : ℕ) (m : Message) → m.kind ≡ Con → Contains before (Send server (spelling m))
      → Gives event before (Send server (spelling m)) []
  none_to_ack : (server : ℕ) (m : Message) → m.kind ≡ Ack → BringsConfirmable event server m.mid
      → Gives event before (Send server (spelling m)) []
  none_to_reset : (server : ℕ) (m : Message) → m.kind ≡ Rst → BringsConfirmable event server m.mid
      → Gives event before (Send server (spelling m)) []
  none_to_act : (act : Deed) → Gives event before (Act act) []

-- to all of these outputs, in their order
abbrev pub GiveAll : Event → List Output → List Output → List ℕ → Type 0
GiveAll event before [] mids = mids ≡ []
GiveAll event before (o ∷ os) mids =
    (own : List ℕ) × (rest : List ℕ) × Gives event before o own × GiveAll event (before ++ o ∷ []) os rest
    × (mids ≡ own ++ rest)

-- the first of these message IDs is the device's next one, each further one the one after it, modulo 65,536; this is
-- the next one then
abbrev pub CountOn : ℕ → List ℕ → ℕ → Type 0
CountOn next_id [] last = last ≡ next_id
CountOn next_id (mid ∷ mids) last = (mid ≡ next_id) × CountOn (id_after next_id) mids last

-- the last message of an observation was sent to its server: it has the observation's token and message ID; it is a
-- NON exactly where the observation says so; while that is open it is a CON, which will be sent again by its bytes
pub record WasSent (before : List Output) (o : Observation) : Type 0 where
  pub message : Message
  pub sent : Contains before (Send o.server (spelling message))
  pub token : message.token ≡ o.token
  pub mid : message.mid ≡ o.mid
  pub non : (o.non ≡ true) ↔ (message.kind ≡ Non)
  pub open_is : (timer : Timer) → o.timer ≡ Some timer → (message.kind ≡ Con) × (timer.bytes ≡ spelling message)

-- the recorded reply to a confirmable request is the acknowledgement of its message ID
abbrev pub IsAcknowledged : Recorded → Type 0
IsAcknowledged r =
    (bytes : List ℕ) → r.kind ≡ Con → r.reply ≡ Some bytes
    → (m : Message) × (m.kind ≡ Ack) × (m.mid ≡ r.mid) × (bytes ≡ spelling m)

-- so it is of all observations and recorded requests, after these outputs
pub record HasSent (before : List Output) (f : Machine) : Type 0 where
  pub observations : AllByRecursion (WasSent before) f.kept.observations
  pub replies : AllByRecursion IsAcknowledged f.recorded

-- the message IDs that a device gives on an event count on from its next one
pub record NumbersOn (before : List Output) (f : Machine) (event : Event) : Type 0 where
  pub mids : List ℕ
  pub gives : GiveAll event before (outputs_of f event) mids
  pub count : CountOn f.kept.next_id mids (flat_after f event).kept.next_id
  pub has_sent : HasSent (before ++ outputs_of f event) (flat_after f event)

-- a device that starts has sent nothing
abbrev pub StartsUnsent : Type 0
StartsUnsent = (class : Template) → HasSent [] (record { kept = start_of class; recorded = [] })

-- each event counts on
abbrev pub EventsNumberOn : Type 0
EventsNumberOn =
    (before : List Output) (f : Machine) (event : Event) → ArrivesInBytes event → HasSent before f
    → NumbersOn before f event

-- ---- a row of events

-- the message IDs that a device gives, event by event, after these outputs
abbrev pub GiveInRow : List Output → Machine → List Event → List ℕ → Type 0
GiveInRow before f [] mids = mids ≡ []
GiveInRow before f (event ∷ events) mids =
    (own : List ℕ) × (rest : List ℕ) × GiveAll event before (outputs_of f event) own
    × GiveInRow (before ++ outputs_of f event) (flat_after f event) events rest × (mids ≡ own ++ rest)

-- they are 0, 1, 2 and so on, modulo 65,536: two of them differ that have fewer than 65,535 between them
pub record CountsFrom0 (f : Machine) (events : List Event) : Type 0 where
  pub mids : List ℕ
  pub gives : GiveInRow [] f events mids
  pub counted : (k mid : ℕ) → slice_get mids k ≡ Some mid → mid ≡ k % 65536
  pub differ : (j k a b : ℕ) → j < k → k < j + 65536 → slice_get mids j ≡ Some a → slice_get mids k ≡ Some b → a ≢ b

-- so it is of every row that begins with the start of a device
abbrev pub RowsCountFrom0 : Type 0
RowsCountFrom0 =
    (class : Template) (events : List Event) → AllByRecursion ArrivesInBytes events
    → CountsFrom0 (record { kept = start_of class; recorded = [] }) events
