-- What devices send whose notifications are Non-confirmable, and how often others send a Confirmable one (RFC 7252
-- section 4.2; RFC 7641 section 4.5).
use Rattle.std.specs.Prelude.{◌≡◌, ℕ, ◌*◌, ◌<◌, nat_le, if◌then◌else◌, List, [], ◌∷◌, replicate, Some, Ok}
use Rattle.std.specs.List.{AllByRecursion}
use Rattle.coap_codec.specs.Message.{Message, spelling}
use Rattle.coap_codec.specs.Reading.{reading_of}
use Rattle.coap_codec.specs.declared.kind.Kind.TheVariants.{Non, Ack}
use Rattle.notifier.specs.declared.observation.Observation.{Observation}
use Rattle.notifier.specs.declared.observation.Timer.{Timer}
use Rattle.device_template.specs.Template.{Template}
use Rattle.device_notifications.specs.ConfirmableLaws.{IsClosed, resends_within}
use Rattle.device_notifications.specs.Message.{resent_datagram}
use Rattle.device_machine.specs.declared.event.Event.{Event}
use Rattle.device_machine.specs.declared.event.Event.TheVariants.{Recv, Tick}
use Rattle.device_machine.specs.declared.output.Output.{Output}
use Rattle.device_machine.specs.declared.output.Output.TheVariants.{Act, Send}
use Rattle.device_machine.specs.Reactions.{flat_after, outputs_of, reaction_to, send_of, silence}
use Rattle.device_machine.specs.State.{Machine}
use Rattle.device_machine.specs.Template.{start_of}

-- the class of a device sends Non-confirmable notifications, and no observation is open
pub record HasNons (f : Machine) : Type 0 where
  pub notify : f.kept.client.notify ≡ 0
  pub closed : AllByRecursion IsClosed f.kept.observations

-- a device of such a class starts so
abbrev pub StartsWithNons : Type 0
StartsWithNons = (class : Template) → class.notify ≡ 0 → HasNons (record { kept = start_of class; recorded = [] })

-- and is so after each event
abbrev pub StaysWithNons : Type 0
StaysWithNons = (f : Machine) (event : Event) → HasNons f → HasNons (flat_after f event)

-- what is sent is a Non-confirmable message
abbrev pub SendsNon : Output → Type 0
SendsNon (Send server bytes) = (m : Message) × (m.kind ≡ Non) × (bytes ≡ spelling m)
SendsNon (Act act) = Unit {0}

-- such a device sends nothing else of its own
abbrev pub TicksSendNons : Type 0
TicksSendNons = (f : Machine) (n : ℕ) → HasNons f → AllByRecursion SendsNon (outputs_of f (Tick n))

-- and each ACK that arrives is ignored
abbrev pub NonsIgnoreAcks : Type 0
NonsIgnoreAcks =
    (f : Machine) (server : ℕ) (bytes : List ℕ) (m : Message) → HasNons f → reading_of bytes ≡ Ok m → m.kind ≡ Ack
    → reaction_to f (Recv server bytes) ≡ silence f

-- a notification was first sent in this second, and is open
pub record IsJustSent (f : Machine) (o : Observation) (timer : Timer) : Type 0 where
  pub second : o.second ≡ f.kept.clock
  pub is_open : o.timer ≡ Some timer
  pub timed : 0 < timer.first

-- in a tick the same bytes are sent once more 1, 3, 7 and 15 first timeouts later, and at no other time; after 31 the
-- observation is removed, with no message
pub record IsSentAgain (f : Machine) (o : Observation) (timer : Timer) (n : ℕ) : Type 0 where
  pub sent : outputs_of f (Tick n) ≡ replicate (resends_within timer.first n) (send_of (resent_datagram o timer))
  pub left : (flat_after f (Tick n)).kept.observations ≡ (if nat_le (31 * timer.first) n then [] else o ∷ [])

-- so it is of the one observation of a device that nothing arrives at
abbrev pub UnansweredIsSentFiveTimes : Type 0
UnansweredIsSentFiveTimes =
    (f : Machine) (o : Observation) (timer : Timer) (n : ℕ) → f.kept.observations ≡ o ∷ [] → IsJustSent f o timer
    → IsSentAgain f o timer n
