-- What follows from the tables, in the words of the standard.
use Rattle.std.specs.Prelude.{◌≡◌, ℕ, ◌+◌, ◌<◌, is_some, if◌then◌else◌, Bool, true, false, ◌⊎◌, List, [], ◌∷◌, ◌++◌}
use Rattle.std.specs.Prelude.{◌≢◌, find, map, slice_get, Option, None, Some, option_and_then, option_map, Ok}
use Rattle.std.specs.List.{AllByRecursion, filter, list_any}
use Rattle.coap_codec.specs.Message.{Message, spelling}
use Rattle.coap_codec.specs.Reading.{reading_of}
use Rattle.coap_codec.specs.declared.option.Opt.{Opt}
use Rattle.coap_codec.specs.declared.kind.Kind.{Kind}
use Rattle.coap_codec.specs.declared.kind.Kind.TheVariants.{Con, Non, Ack, Rst}
use Rattle.device_requests.specs.declared.ruling.Ruling.{Ruling}
use Rattle.device_machine.specs.declared.event.Event.TheVariants.{Recv, Tick}
use Rattle.device_machine.specs.declared.output.Output.{Output}
use Rattle.device_machine.specs.declared.output.Output.TheVariants.{Send, Act}
use Rattle.device_requests.specs.declared.answer.Act.{Act as Deed}
use Rattle.device_machine.specs.declared.recorded.Recorded.{Recorded}
use Rattle.device_requests.specs.Answer.{code_byte, is_content}
use Rattle.object_defs.specs.Lines.{first_line}
use Rattle.device_requests.specs.Request.{outcome_of}
use Rattle.notifier.specs.Observed.{as_closed, has_name, is_awaited, is_named, number_for, was_sent, without_cancelled}
use Rattle.notifier.specs.declared.observation.Observation.{Observation}
use Rattle.notifier.specs.declared.observation.Timer.{Timer}
use Rattle.object_defs.specs.declared.path.Path.{Path}
use Rattle.device_notifications.specs.declared.datagram.Datagram.{Datagram}
use Rattle.device_notifications.specs.Laws.{IsOf, RisesByOne}
use Rattle.device_notifications.specs.Laws.{IsYoung}
use Rattle.device_notifications.specs.Message.{observe_options}
use Rattle.device_machine.specs.Observing.{lacks_place}
use Rattle.device_requests.specs.Observe.{interest_of}
use Rattle.device_requests.specs.declared.observe.Interest.{Interest}
use Rattle.device_requests.specs.declared.observe.Interest.TheVariants.{Cancel, Register}
use Rattle.device_machine.specs.State.{Machine, lifetime, with_observations}
use Rattle.device_requests.specs.Client.{has_account}
use Rattle.device_requests.specs.Options.{has_unrecognized_critical}
use Rattle.device_requests.specs.Laws.{is_refusal, request_lines}
use Rattle.device_requests.specs.Ruling.{code_of}
use Rattle.device_machine.specs.Reactions.{Reaction, outputs_of_act, outputs_of, flat_after, is_request}
use Rattle.device_machine.specs.Reactions.{flat_after_seconds, reaction_to, repeat_of, send_of, silence}

-- the bytes are a request of this server that is no repeat
pub record IsFresh (f : Machine) (server : ℕ) (bytes : List ℕ) (m : Message) : Type 0 where
  pub account : has_account f.kept.client server ≡ true
  pub reading : reading_of bytes ≡ Ok m
  pub request : is_request m.code ≡ true
  pub first : repeat_of f server m ≡ None

-- these bytes are a request of the same type and message ID, whatever else they say
pub record IsAgain (m : Message) (bytes : List ℕ) (n : Message) : Type 0 where
  pub reading : reading_of bytes ≡ Ok n
  pub request : is_request n.code ≡ true
  pub kind : n.kind ≡ m.kind
  pub mid : n.mid ≡ m.mid

abbrev pub is_sent : Output → Bool
is_sent (Send server bytes) = true
is_sent (Act act) = false

-- a confirmable request that comes again within its lifetime gets the same bytes again, and changes nothing (RFC 7252
-- section 4.5); what the device did after the first reply it does not do again
abbrev pub ConfirmableRepeats : Type 0
ConfirmableRepeats =
    (f : Machine) (server seconds : ℕ) (bytes again : List ℕ) (m n : Message)
    → IsFresh f server bytes m → m.kind ≡ Con → seconds < lifetime Con → IsAgain m again n
    → (outputs_of (flat_after_seconds (flat_after f (Recv server bytes)) seconds) (Recv server again)
    ≡ filter is_sent (outputs_of f (Recv server bytes)))
    × (flat_after (flat_after_seconds (flat_after f (Recv server bytes)) seconds) (Recv server again)
    ≡ flat_after_seconds (flat_after f (Recv server bytes)) seconds)

-- a non-confirmable one gets nothing then, and changes nothing
abbrev pub NonConfirmableRepeats : Type 0
NonConfirmableRepeats =
    (f : Machine) (server seconds : ℕ) (bytes again : List ℕ) (m n : Message)
    → IsFresh f server bytes m → m.kind ≡ Non → seconds < lifetime Non → IsAgain m again n
    → (outputs_of (flat_after_seconds (flat_after f (Recv server bytes)) seconds) (Recv server again) ≡ [])
    × (flat_after (flat_after_seconds (flat_after f (Recv server bytes)) seconds) (Recv server again)
    ≡ flat_after_seconds (flat_after f (Recv server bytes)) seconds)

-- a request gets one datagram, after which the device may act: a message of this type and message ID, with its token,
-- whose code is that of the first rule that applies
pub record IsAnswered (f : Machine) (server : ℕ) (bytes : List ℕ) (m : Message) (kind : Kind) (mid : ℕ) : Type 0 where
  pub reply : Message
  pub act : Option Deed
  pub sent : outputs_of f (Recv server bytes) ≡ Send server (spelling reply) ∷ outputs_of_act act
  pub kind_is : reply.kind ≡ kind
  pub mid_is : reply.mid ≡ mid
  pub token : reply.token ≡ m.token
  pub said : Ruling
  pub code : reply.code ≡ code_byte (code_of said)
  pub line : first_line (request_lines f.kept.client server m) ≡ Some said

-- a confirmable request is answered by an acknowledgement with its message ID (RFC 7252 section 5.2.1)
abbrev pub ConfirmableAnswers : Type 0
ConfirmableAnswers =
    (f : Machine) (server : ℕ) (bytes : List ℕ) (m : Message) → IsFresh f server bytes m → m.kind ≡ Con
    → IsAnswered f server bytes m Ack m.mid

-- a non-confirmable one by a message with the device's next message ID (section 5.2.3)
abbrev pub NonConfirmableAnswers : Type 0
NonConfirmableAnswers =
    (f : Machine) (server : ℕ) (bytes : List ℕ) (m : Message) → IsFresh f server bytes m → m.kind ≡ Non
    → has_unrecognized_critical m.options ≡ false
    → IsAnswered f server bytes m Non f.kept.next_id

-- or by nothing, where an option that must be understood isn't (section 5.4.1)
abbrev pub NonConfirmableRejects : Type 0
NonConfirmableRejects =
    (f : Machine) (server : ℕ) (bytes : List ℕ) (m : Message) → IsFresh f server bytes m → m.kind ≡ Non
    → has_unrecognized_critical m.options ≡ true
    → outputs_of f (Recv server bytes) ≡ []

-- a request is added to the recorded ones, the next message ID may be counted on, and a Read that says Observe 0 or 1
-- ends the observation of its name; all else is as it was
pub record OnlyRecords (f : Machine) (server : ℕ) (m : Message) (g : Machine) : Type 0 where
  pub client : g.kept.client ≡ f.kept.client
  pub observations : g.kept.observations
      ≡ (if is_some (interest_of m) then without_cancelled f.kept.observations server m.token else f.kept.observations)
  pub clock : g.kept.clock ≡ f.kept.clock
  pub one_more : Recorded
  pub recorded : g.recorded ≡ f.recorded ++ one_more ∷ []

-- a request that is refused changes nothing else
abbrev pub RefusedChangesNothing : Type 0
RefusedChangesNothing =
    (f : Machine) (server : ℕ) (bytes : List ℕ) (m : Message) → IsFresh f server bytes m → (m.kind ≡ Con)
    ⊎ (m.kind ≡ Non)
    → is_refusal (code_of (outcome_of f.kept.client server m).answer.ruling) ≡ true
    → OnlyRecords f server m (flat_after f (Recv server bytes))

-- after a Read that says Observe 1 there is no observation of its name, whatever it was answered (RFC 7641 section
-- 3.6)
abbrev pub CancelsEnd : Type 0
CancelsEnd =
    (f : Machine) (server : ℕ) (bytes : List ℕ) (m : Message) → IsFresh f server bytes m → (m.kind ≡ Con)
    ⊎ (m.kind ≡ Non)
    → interest_of m ≡ Some Cancel → has_name (flat_after f (Recv server bytes)).kept.observations server m.token ≡ false

-- after an Empty Reset there is no observation of its server whose last message was a NON with its message ID, or is
-- such a CON that is still open
abbrev pub ResetsEnd : Type 0
ResetsEnd =
    (f : Machine) (server : ℕ) (bytes : List ℕ) (m : Message) → has_account f.kept.client server ≡ true
    → reading_of bytes ≡ Ok m
    → m.kind ≡ Rst → m.code ≡ 0
    → list_any (was_sent server m.mid) (flat_after f (Recv server bytes)).kept.observations ≡ false

-- nothing is sent; the observations of this server that awaited an acknowledgement with this message ID are closed, and
-- all else is as it was
pub record OnlyCloses (f : Machine) (server mid : ℕ) (reaction : Reaction) : Type 0 where
  pub sent : reaction.outputs ≡ []
  pub closed : list_any (is_awaited server mid) reaction.flat.kept.observations ≡ false
  pub timers : map as_closed reaction.flat.kept.observations ≡ map as_closed f.kept.observations
  pub others : (place : ℕ) (o : Observation) → slice_get f.kept.observations place ≡ Some o
      → is_awaited server mid o ≡ false → slice_get reaction.flat.kept.observations place ≡ Some o
  pub frame : reaction.flat
      ≡ record f { kept = with_observations f.kept reaction.flat.kept.observations }

-- an Empty ACK does no more than that (RFC 7252 section 4.2)
abbrev pub AcknowledgementsClose : Type 0
AcknowledgementsClose =
    (f : Machine) (server : ℕ) (bytes : List ℕ) (m : Message) → has_account f.kept.client server ≡ true
    → reading_of bytes ≡ Ok m
    → m.kind ≡ Ack → m.code ≡ 0
    → OnlyCloses f server m.mid (reaction_to f (Recv server bytes))

-- one that no observation awaits is ignored, and so is an ACK that is not Empty
abbrev pub OthersAreIgnored : Type 0
OthersAreIgnored =
    (f : Machine) (server : ℕ) (bytes : List ℕ) (m : Message) → has_account f.kept.client server ≡ true
    → reading_of bytes ≡ Ok m
    → m.kind ≡ Ack → (m.code ≢ 0) ⊎ (list_any (is_awaited server m.mid) f.kept.observations ≡ false)
    → reaction_to f (Recv server bytes) ≡ silence f

-- what the last message of the observation of this name is sent again by, where there is one that is open
abbrev pub timer_noted : List Observation → ℕ → List ℕ → Option Timer
timer_noted observations server token = option_and_then (λ o. o.timer) (find (is_named server token) observations)

-- after a Read that says Observe 0 or 1 the observation of its name, where there is one, is closed, whatever it was
-- answered
abbrev pub UpdatesClose : Type 0
UpdatesClose =
    (f : Machine) (server : ℕ) (bytes : List ℕ) (m : Message) (interest : Interest) → IsFresh f server bytes m
    → (m.kind ≡ Con) ⊎ (m.kind ≡ Non)
    → interest_of m ≡ Some interest
    → timer_noted (flat_after f (Recv server bytes)).kept.observations server m.token ≡ None

-- the Observe number of the last message of the observation of this name, where there is one
abbrev pub number_noted : List Observation → ℕ → List ℕ → Option ℕ
number_noted observations server token = option_map (λ o. o.number) (find (is_named server token) observations)

-- the reply to a request has this Observe number, and the observation of its name has it then
pub record IsCounted (reaction : Reaction) (server : ℕ) (m : Message) (number : ℕ) : Type 0 where
  pub left : number_noted reaction.flat.kept.observations server m.token ≡ Some number
  pub reply : Message
  pub act : Option Deed
  pub sent : reaction.outputs ≡ Send server (spelling reply) ∷ outputs_of_act act
  pub options : List Opt
  pub observe : reply.options ≡ observe_options (Some number) ++ options

-- the reply to a Read that registers and is answered by content has, where there is a place, Observe 0 for a new name,
-- else one more than the observation's last message, modulo 2^24 (RFC 7641 section 3.4)
abbrev pub RegistrationsCount : Type 0
RegistrationsCount =
    (f : Machine) (server : ℕ) (bytes : List ℕ) (m : Message) (path : Path) (accept : Option ℕ)
    → IsFresh f server bytes m → (m.kind ≡ Con) ⊎ (m.kind ≡ Non)
    → interest_of m ≡ Some (Register path accept) → is_content (outcome_of f.kept.client server m).answer ≡ true
    → lacks_place f.kept.observations server m.token ≡ false
    → IsCounted (reaction_to f (Recv server bytes)) server m (number_for f.kept.observations server m.token)

-- a tick of n seconds, and one of m seconds after it, are one of n + m
pub record AddsUp (f : Machine) (a b : ℕ) : Type 0 where
  pub sent : outputs_of f (Tick (a + b)) ≡ outputs_of f (Tick a) ++ outputs_of (flat_after f (Tick a)) (Tick b)
  pub then_flat : flat_after f (Tick (a + b)) ≡ flat_after (flat_after f (Tick a)) (Tick b)

abbrev pub TicksAdd : Type 0
TicksAdd = (f : Machine) (a b : ℕ) → AddsUp f a b

-- a datagram is sent in a second of a tick by an observation that is there then: a notification that keeps it, pmin
-- seconds or more after its last message, the message that ends it, or its open notification once more
abbrev pub IsSentIn : Machine → ℕ → Datagram → Type 0
IsSentIn f n d =
    (k : ℕ) × (k < n) × IsOf f.kept.client (f.kept.clock + (k + 1)) (flat_after f (Tick k)).kept.observations d

-- so is all that a device outputs in a tick
pub record SendsInTime (f : Machine) (n : ℕ) : Type 0 where
  pub datagrams : List Datagram
  pub sent : outputs_of f (Tick n) ≡ map send_of datagrams
  pub each : AllByRecursion (IsSentIn f n) datagrams

abbrev pub TicksSendAfterPmin : Type 0
TicksSendAfterPmin = (f : Machine) (n : ℕ) → SendsInTime f n

-- after each second no closed observation whose pmax has effect has a last message that is pmax seconds old, and no
-- open one has been so for all of its timeouts
abbrev pub TicksSendBeforePmax : Type 0
TicksSendBeforePmax =
    (f : Machine) (n : ℕ)
    → AllByRecursion (IsYoung f.kept.client (flat_after f (Tick (n + 1))).kept.clock)
    (flat_after f (Tick (n + 1))).kept.observations

-- the Observe numbers of an observation's messages rise by one with each of them, modulo 2^24, whatever is sent
-- between, open notifications once more among it (RFC 7641 section 3.4)
pub record CountsOn (f : Machine) (n : ℕ) (o : Observation) (others : List Observation) : Type 0 where
  pub datagrams : List Datagram
  pub sent : outputs_of f (Tick n) ≡ map send_of datagrams
  pub rises : RisesByOne o others datagrams (flat_after f (Tick n)).kept.observations

abbrev pub TicksCount : Type 0
TicksCount =
    (f : Machine) (n : ℕ) (before after : List Observation) (o : Observation)
    → f.kept.observations ≡ before ++ o ∷ after
    → CountsOn f n o (before ++ after)
