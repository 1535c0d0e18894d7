-- What a device sends on a datagram, and the flat state after it (RFC 7252 sections 4.2 and 4.3).
use Rattle.std.specs.Prelude.{◌≡◌, ◌≤◌, ℕ, ◌+◌, ◌*◌, ◌/◌, ◌%◌, ◌==◌, nat_le, nat_lt, ◌++◌, find, map, option_map, Bool}
use Rattle.std.specs.Prelude.{false, not, ◌&&◌, ◌||◌, List, [], ◌∷◌, length, slice_index, Option, None, Some, Result}
use Rattle.std.specs.Prelude.{Ok, Err, if◌then◌else◌}
use Rattle.coap_codec.specs.declared.kind.Kind.{Kind}
use Rattle.coap_codec.specs.declared.kind.Kind.TheVariants.{Con, Non, Ack, Rst}
use Rattle.coap_codec.specs.declared.fault.CoapFault.{CoapFault}
use Rattle.coap_codec.specs.declared.option.Opt.{Opt}
use Rattle.coap_codec.specs.Message.{Message, spelling, kind_number}
use Rattle.coap_codec.specs.OptionNumber.{location_path_option}
use Rattle.coap_codec.specs.Reading.{reading_of}
use Rattle.device_requests.specs.declared.answer.Answer.{Answer}
use Rattle.device_machine.specs.declared.event.Event.{Event}
use Rattle.device_machine.specs.declared.event.Event.TheVariants.{Recv, Put, Firmware, Tick}
use Rattle.device_machine.specs.declared.output.Output.{Output}
use Rattle.device_machine.specs.declared.output.Output.TheVariants.{Send, Act}
use Rattle.device_requests.specs.declared.answer.Act.{Act as Deed}
use Rattle.device_requests.specs.declared.answer.Act.TheVariants.{Missed}
use Rattle.device_template.specs.Values.{misses, with_value_at}
use Rattle.device_firmware.specs.Firmware.{firmware_after}
use Rattle.device_firmware.specs.declared.event.FirmwareEvent.TheVariants.{Ended}
use Rattle.instance_store.specs.Stored.{Stored}
use Rattle.lwm2m_values.specs.declared.value.Value.{Value}
use Rattle.object_defs.specs.Path.{full_path}
use Rattle.std.specs.Fmt.{decimal}
use Rattle.object_defs.specs.declared.path.FullPath.{FullPath}
use Rattle.object_defs.specs.declared.path.InstancePath.{InstancePath}
use Rattle.device_requests.specs.Answer.{Outcome, code_byte}
use Rattle.device_requests.specs.Client.{has_account, with_stored}
use Rattle.device_requests.specs.Options.{has_unrecognized_critical}
use Rattle.device_requests.specs.Request.{outcome_of}
use Rattle.device_requests.specs.Ruling.{code_of}
use Rattle.device_machine.specs.declared.recorded.Recorded.{Recorded}
use Rattle.notifier.specs.Observed.{with_acknowledged, without_reset}
use Rattle.device_notifications.specs.Message.{format_options, observe_options}
use Rattle.device_notifications.specs.Second.{Sweep, seconds}
use Rattle.device_notifications.specs.declared.datagram.Datagram.{Datagram}
use Rattle.device_machine.specs.Observing.{ObserveResult, observe_result}
use Rattle.device_machine.specs.State.{DeviceState, Machine, Device, is_live, with_client, with_observations}

-- what is output, and the flat state then
pub record Reaction : Type 0 where
  pub outputs : List Output
  pub flat : Machine

-- these outputs, and the flat state now, are the reaction
pub record Gives (outputs : List Output) (flat : Machine) (reaction : Reaction) : Type 0 where
  pub sent : outputs ≡ reaction.outputs
  pub then_flat : flat ≡ reaction.flat

-- nothing is sent, and nothing changes
abbrev pub silence : Machine → Reaction
silence f = record { outputs = []; flat = f }

abbrev pub sends : Machine → ℕ → Message → Reaction
sends f server m = record { outputs = Send server (spelling m) ∷ []; flat = f }

-- an empty Reset of this message ID
abbrev pub reset : ℕ → Message
reset mid = record { kind = Rst; code = 0; mid = mid; token = []; options = []; payload = [] }

-- Location-Path, one for each number, in decimal (RFC 7252 section 5.10.7)
abbrev pub location_options : Option InstancePath → List Opt
location_options None = []
location_options (Some place) =
    record { number = location_path_option; value = decimal place.object }
    ∷ record { number = location_path_option; value = decimal place.instance }
    ∷ []

-- its numbers have five digits at most
abbrev pub IsShort : Option InstancePath → Type 0
IsShort None = Unit {0}
IsShort (Some place) = (length (decimal place.object) ≤ 5) × (length (decimal place.instance) ≤ 5)

-- Observe with this number, Location-Path and Content-Format, in the order of their numbers
abbrev pub answer_options : Option ℕ → Option InstancePath → Option ℕ → List Opt
answer_options number location format = observe_options number ++ (location_options location ++ format_options format)

-- the message of an answer, with the token of the request and this Observe number
abbrev pub response : Kind → ℕ → List ℕ → Option ℕ → Answer → Message
response kind mid token number answer =
    record {
      kind = kind;
      code = code_byte (code_of answer.ruling);
      mid = mid;
      token = token;
      options = answer_options number answer.location answer.format;
      payload = answer.payload;
    }

-- a code of class 0 other than 0.00 is a request's (RFC 7252 section 12.1)
abbrev pub is_request : ℕ → Bool
is_request code = code / 32 == 0 && not (code == 0)

-- the next message ID is counted on, modulo 65,536
abbrev pub with_id_taken : DeviceState → DeviceState
with_id_taken kept = record kept { next_id = (kept.next_id + 1) % 65536 }

-- what replies to a request of this type, message ID and token, which may be rejected: a confirmable one is
-- acknowledged; a non-confirmable one is answered by a message of the device's next message ID, or not at all where it
-- is rejected
abbrev pub reply_with : ℕ → Kind → ℕ → List ℕ → Bool → Option ℕ → Answer → Option Message
reply_with next_id Con mid token rejected number answer = Some (response Ack mid token number answer)
reply_with next_id Non mid token rejected number answer =
    if rejected then None else Some (response Non next_id token number answer)
reply_with next_id Ack mid token rejected number answer = None
reply_with next_id Rst mid token rejected number answer = None

-- a request is rejected where an option isn't understood
abbrev pub reply_to : ℕ → Message → Kind → Option ℕ → Answer → Option Message
reply_to next_id m kind number answer =
    reply_with next_id kind m.mid m.token (has_unrecognized_critical m.options) number answer

-- a reply of the device's own message ID counts it on
abbrev pub kept_after : DeviceState → Kind → Option Message → DeviceState
kept_after kept Non (Some reply) = with_id_taken kept
kept_after kept kind reply = kept

abbrev pub sent_to : ℕ → Option (List ℕ) → List Output
sent_to server None = []
sent_to server (Some bytes) = Send server bytes ∷ []

-- what the device does beside sending, if there is something
abbrev pub outputs_of_act : Option Deed → List Output
outputs_of_act None = []
outputs_of_act (Some act) = Act act ∷ []

-- a request, as it is recorded with the datagram that replied
abbrev pub record_of : DeviceState → ℕ → Message → Option (List ℕ) → Recorded
record_of kept server m reply =
    record { server = server; kind = m.kind; mid = m.mid; second = kept.clock; reply = reply }

-- a request is answered and recorded, refusals included; this is kept then, and the device acts after the reply
abbrev pub on_fresh : Machine → ℕ → Message → DeviceState → Option Message → Option Deed → Reaction
on_fresh f server m kept reply act =
    record {
      outputs = sent_to server (option_map spelling reply) ++ outputs_of_act act;
      flat = record {
        kept = kept_after kept m.kind reply;
        recorded = f.recorded ++ record_of f.kept server m (option_map spelling reply) ∷ [];
      };
    }

-- the observations are noted with the answer, and the reply has their number
abbrev pub on_noted : Machine → ℕ → Message → Outcome → ObserveResult → Reaction
on_noted f server m outcome noted =
    on_fresh f server m (with_observations (with_client f.kept outcome.client) noted.left)
    (reply_to f.kept.next_id m m.kind noted.number outcome.answer) outcome.answer.act

-- what a request that is no repeat answers and changes
abbrev pub on_outcome : Machine → ℕ → Message → Outcome → Reaction
on_outcome f server m outcome =
    on_noted f server m outcome (observe_result (with_client f.kept outcome.client) server m outcome.answer)

-- a recorded request of the same server, type and message ID, whose age is below its lifetime (RFC 7252 section 4.5);
-- bytes are not compared
abbrev pub is_same : ℕ → Message → Recorded → Bool
is_same server m r = r.server == server && (r.mid == m.mid && kind_number r.kind == kind_number m.kind)

abbrev pub repeat_of : Machine → ℕ → Message → Option Recorded
repeat_of f server m = find (λ r. is_live f.kept.clock r && is_same server m r) f.recorded

-- a repeated confirmable request gets the recorded reply again, a repeated non-confirmable one nothing
abbrev pub again : ℕ → Kind → Option (List ℕ) → List Output
again server Con reply = sent_to server reply
again server Non reply = []
again server Ack reply = []
again server Rst reply = []

abbrev pub on_request : Machine → ℕ → Message → Option Recorded → Reaction
on_request f server m None = on_outcome f server m (outcome_of f.kept.client server m)
on_request f server m (Some r) = record { outputs = again server m.kind r.reply; flat = f }

-- an Empty Reset ends the observations of its server whose last message was a NON with its message ID, or is such a CON
-- that no acknowledgement has answered (RFC 7641 section 3.6)
abbrev pub on_reset : Machine → ℕ → ℕ → Reaction
on_reset f server mid =
    record {
      outputs = [];
      flat = record f { kept = with_observations f.kept (without_reset f.kept.observations server mid) };
    }

-- an Empty ACK closes the observations of its server whose last message is a CON with its message ID that no
-- acknowledgement has answered (RFC 7252 section 4.2); nothing is sent and nothing is recorded
abbrev pub on_acknowledgement : Machine → ℕ → ℕ → Reaction
on_acknowledgement f server mid =
    record {
      outputs = [];
      flat = record f { kept = with_observations f.kept (with_acknowledged f.kept.observations server mid) };
    }

-- requests are answered; another confirmable message is reset, all else but an Empty Reset and an Empty ACK ignored
abbrev pub on_message : Machine → ℕ → Message → Kind → Reaction
on_message f server m Con =
    if is_request m.code then on_request f server m (repeat_of f server m) else sends f server (reset m.mid)
on_message f server m Non = if is_request m.code then on_request f server m (repeat_of f server m) else silence f
on_message f server m Ack = if m.code == 0 then on_acknowledgement f server m.mid else silence f
on_message f server m Rst = if m.code == 0 then on_reset f server m.mid else silence f

-- there is a header of version 1, and its type is confirmable
abbrev pub claims_confirmable : List ℕ → Bool
claims_confirmable bytes =
    nat_le 4 (length bytes) && (slice_index bytes 0 / 64 == 1 && slice_index bytes 0 / 16 % 4 == 0)

-- the header's message ID
abbrev pub claimed_mid : List ℕ → ℕ
claimed_mid bytes = 256 * slice_index bytes 2 + slice_index bytes 3

-- bytes that are no message are ignored; those that claim to be confirmable are reset
abbrev pub on_noise : Machine → ℕ → List ℕ → Reaction
on_noise f server bytes = if claims_confirmable bytes then sends f server (reset (claimed_mid bytes)) else silence f

abbrev pub on_datagram : Machine → ℕ → List ℕ → Result Message CoapFault → Reaction
on_datagram f server bytes (Ok m) = on_message f server m m.kind
on_datagram f server bytes (Err fault) = on_noise f server bytes

-- what the observations do in n seconds
abbrev pub sweep_in : DeviceState → ℕ → Sweep
sweep_in kept count = seconds kept.client kept.clock count kept.next_id kept.observations

-- the flat state n seconds later: the clock is set on, second by second, and the observations have their turns
abbrev pub flat_after_seconds : Machine → ℕ → Machine
flat_after_seconds f count =
    record {
      kept = record {
        client = f.kept.client;
        observations = (sweep_in f.kept count).left;
        clock = f.kept.clock + count;
        next_id = (sweep_in f.kept count).next_id;
      };
      recorded = f.recorded;
    }

abbrev pub send_of : Datagram → Output
send_of datagram = Send datagram.server datagram.bytes

-- seconds pass, and what the observations send in them is sent
abbrev pub on_tick : Machine → ℕ → Reaction
on_tick f count = record { outputs = map send_of (sweep_in f.kept count).sent; flat = flat_after_seconds f count }

-- a value is set where it fits; else the device does no more than say so
abbrev pub on_put : Machine → Option FullPath → Value → Reaction
on_put f place value =
    if misses f.kept.client.catalog f.kept.client.store place value
    then record { outputs = Act Missed ∷ []; flat = f }
    else record {
      outputs = [];
      flat = record f {
        kept = with_client f.kept (with_stored f.kept.client (with_value_at f.kept.client.store place value));
      };
    }

-- a download or an update ends where the firmware is in a state for it; else the device does no more than say so
abbrev pub on_firmware : Machine → Option Stored → Reaction
on_firmware f None = record { outputs = Act Missed ∷ []; flat = f }
on_firmware f (Some stored) =
    record {
      outputs = [];
      flat = record f { kept = with_client f.kept (with_stored f.kept.client stored) };
    }

-- a datagram from a server that is no account changes nothing and gives nothing
abbrev pub reaction_to : Machine → Event → Reaction
reaction_to f (Recv server bytes) =
    if has_account f.kept.client server then on_datagram f server bytes (reading_of bytes) else silence f
reaction_to f (Put path value) = on_put f (full_path path) value
reaction_to f (Firmware code) = on_firmware f (firmware_after f.kept.client.store (Ended code))
reaction_to f (Tick count) = on_tick f count

-- what a device in this flat state outputs on an event
abbrev pub outputs_of : Machine → Event → List Output
outputs_of f event = (reaction_to f event).outputs

-- the flat state after an event
abbrev pub flat_after : Machine → Event → Machine
flat_after f event = (reaction_to f event).flat

-- the event would take the clock past 2^63 - 1
abbrev pub passes_end : ℕ → Event → Bool
passes_end clock (Recv server bytes) = false
passes_end clock (Put path value) = false
passes_end clock (Firmware code) = false
passes_end clock (Tick seconds) = nat_lt 9223372036854775807 (clock + seconds)

-- a spent device refuses each event, every device a tick past the last second
abbrev pub is_refused : Device → Event → Bool
is_refused device event = device.spent || passes_end device.flat.kept.clock event
