-- The datagrams of a device are messages (RFC 7252 section 3).
use Rattle.std.specs.Prelude.{◌≡◌, ℕ, ◌<◌, List, [], Option, None, Some, Ok}
use Rattle.std.specs.List.{All, AllByRecursion}
use Rattle.coap_codec.specs.Message.{Message, Spells}
use Rattle.coap_codec.specs.Reading.{reading_of}
use Rattle.notifier.specs.Observed.{HasToken}
use Rattle.notifier.specs.declared.observation.Observation.{Observation}
use Rattle.notifier.specs.declared.observation.Timer.{Timer}
use Rattle.device_requests.specs.Request.{outcome_of}
use Rattle.device_template.specs.Template.{Template}
use Rattle.device_machine.specs.declared.event.Event.{Event}
use Rattle.device_machine.specs.declared.event.Event.TheVariants.{Firmware, Put, Recv, Tick}
use Rattle.device_machine.specs.declared.output.Output.{Output}
use Rattle.device_machine.specs.declared.output.Output.TheVariants.{Act, Send}
use Rattle.device_machine.specs.declared.recorded.Recorded.{Recorded}
use Rattle.device_machine.specs.Reactions.{IsShort, flat_after, outputs_of}
use Rattle.device_machine.specs.State.{Machine}
use Rattle.device_machine.specs.Template.{start_of}

-- the bytes spell a message, and are read as it
abbrev pub IsMessage : List ℕ → Type 0
IsMessage bytes = (m : Message) × Spells bytes m × (reading_of bytes ≡ Ok m)

abbrev pub IsReply : Option (List ℕ) → Type 0
IsReply None = Unit {0}
IsReply (Some bytes) = IsMessage bytes

abbrev pub HasReply : Recorded → Type 0
HasReply r = IsReply r.reply

-- a token has at most 8 bytes, and what an open notification is sent again with is a message
pub record HasMessages (o : Observation) : Type 0 where
  pub token : HasToken o
  pub open_is : (timer : Timer) → o.timer ≡ Some timer → IsMessage timer.bytes

-- a message ID has 16 bits, each observation has messages, and recorded replies are messages
pub record IsSound (f : Machine) : Type 0 where
  pub next_id : f.kept.next_id < 65536
  pub observations : AllByRecursion HasMessages f.kept.observations
  pub replies : AllByRecursion HasReply f.recorded

-- a device starts so
abbrev pub StartsSound : Type 0
StartsSound = (class : Template) → IsSound (record { kept = start_of class; recorded = [] })

-- what is sent is a message
abbrev pub SendsMessage : Output → Type 0
SendsMessage (Send server bytes) = IsMessage bytes
SendsMessage (Act act) = Unit {0}

-- what arrives are bytes; and the numbers of an instance that they create have five digits at most
abbrev pub Arrives : Machine → Event → Type 0
Arrives f (Recv server bytes) =
    All (λ b. b < 256) bytes
    × ((m : Message) → reading_of bytes ≡ Ok m → IsShort (outcome_of f.kept.client server m).answer.location)
Arrives f (Put path value) = Unit {0}
Arrives f (Firmware code) = Unit {0}
Arrives f (Tick n) = Unit {0}

-- on each event all datagrams are messages, and the device is so then
abbrev pub DatagramsAreMessages : Type 0
DatagramsAreMessages =
    (f : Machine) (event : Event) → IsSound f → Arrives f event
    → AllByRecursion SendsMessage (outputs_of f event) × IsSound (flat_after f event)
