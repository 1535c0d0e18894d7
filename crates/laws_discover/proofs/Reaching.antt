-- The attributes that servers set, in every state that a device can reach.
use Rattle.std.proofs.Common.{ℕ, ◌==◌, List, [], ◌∷◌, Option, None, Some, Result, Ok, Err, refl}
use Rattle.lemmas.proofs.Tests.{either}
use Rattle.coap_codec.specs.Message.{Message}
use Rattle.coap_codec.specs.Reading.{reading_of}
use Rattle.coap_codec.specs.declared.fault.CoapFault.{CoapFault}
use Rattle.coap_codec.specs.declared.kind.Kind.{Kind}
use Rattle.coap_codec.specs.declared.kind.Kind.TheVariants.{Ack, Con, Non, Rst}
use Rattle.lwm2m_values.specs.declared.value.Value.{Value}
use Rattle.object_defs.specs.declared.path.FullPath.{FullPath}
use Rattle.object_defs.specs.Path.{full_path}
use Rattle.instance_store.specs.Stored.{Stored}
use Rattle.device_firmware.specs.Firmware.{firmware_after}
use Rattle.device_firmware.specs.declared.event.FirmwareEvent.TheVariants.{Ended}
use Rattle.device_template.specs.Template.{Template}
use Rattle.device_template.specs.Values.{misses, with_value_at}
use Rattle.device_requests.specs.Client.{Client, has_account, with_stored}
use Rattle.device_requests.specs.Request.{outcome_of}
use Rattle.device_requests.specs.declared.answer.Act.TheVariants.{Missed}
use Rattle.device_machine.specs.Observing.{observe_result}
use Rattle.device_machine.specs.Reactions.{Reaction, claimed_mid, claims_confirmable, is_request, kept_after}
use Rattle.device_machine.specs.Reactions.{on_acknowledgement, on_datagram, on_firmware, on_message, on_put, on_request}
use Rattle.device_machine.specs.Reactions.{on_reset, reaction_to, repeat_of, reply_to, reset, sends, silence}
use Rattle.device_machine.specs.State.{DeviceState, Machine, with_client, with_observations}
use Rattle.device_machine.specs.Template.{start_of}
use Rattle.device_machine.specs.declared.event.Event.{Event}
use Rattle.device_machine.specs.declared.event.Event.TheVariants.{Firmware, Put, Recv, Tick}
use Rattle.device_machine.specs.declared.output.Output.TheVariants.{Act}
use Rattle.device_machine.specs.declared.recorded.Recorded.{Recorded}
use Rattle.laws_discover.specs.Printed.{HasValidAttributes}
use Rattle.laws_discover.specs.Reached.{EventsKeepSound, HasSoundAttributes, ReachedAreSound, flat_after_all}
use Rattle.laws_discover.proofs.Agreeing.{AllAgree, none_agree, requests_agree, they_agree, they_pass}
use Rattle.laws_discover.proofs.Validity.{kept_valid, none_valid}

-- the numbers of the attributes are valid, and pass the test of agreement at each path
record IsFit (client : Client) : Type 0 where
  valid : HasValidAttributes client
  agree : AllAgree client.attributes

asked : (client : Client) (server : ℕ) (m : Message) → IsFit client → IsFit (outcome_of client server m).client
asked client server m h =
    record { valid = kept_valid client server m h.valid; agree = requests_agree client server m h.agree }

-- where values alone differ, attributes and catalog are the same
stored_fit : (client : Client) (stored : Stored) → IsFit client → IsFit (with_stored client stored)
stored_fit client stored h = record { valid = h.valid; agree = h.agree }

abbrev LeavesFit : Reaction → Type 0
LeavesFit r = IsFit r.flat.kept.client

replied : (k : DeviceState) (kind : Kind) (reply : Option Message) → IsFit k.client
    → IsFit (kept_after k kind reply).client
replied k Con reply h = h
replied k Non None h = h
replied k Non (Some reply) h = h
replied k Ack reply h = h
replied k Rst reply h = h

request_fit : (f : Machine) (server : ℕ) (m : Message) (o : Option Recorded) → IsFit f.kept.client
    → LeavesFit (on_request f server m o)
request_fit f server m None h =
    let outcome = outcome_of f.kept.client server m in
    let before = with_client f.kept outcome.client in
    let told = observe_result before server m outcome.answer in
    replied (with_observations before told.left) m.kind
    (reply_to f.kept.next_id m m.kind told.number outcome.answer) (asked f.kept.client server m h)
request_fit f server m (Some r) h = h

message_fit : (f : Machine) (server : ℕ) (m : Message) (kind : Kind) → IsFit f.kept.client
    → LeavesFit (on_message f server m kind)
message_fit f server m Con h =
    either LeavesFit (is_request m.code) (on_request f server m (repeat_of f server m)) (sends f server (reset m.mid))
    (request_fit f server m (repeat_of f server m) h) h
message_fit f server m Non h =
    either LeavesFit (is_request m.code) (on_request f server m (repeat_of f server m)) (silence f)
    (request_fit f server m (repeat_of f server m) h) h
message_fit f server m Ack h = either LeavesFit (m.code == 0) (on_acknowledgement f server m.mid) (silence f) h h
message_fit f server m Rst h = either LeavesFit (m.code == 0) (on_reset f server m.mid) (silence f) h h

datagram_fit : (f : Machine) (server : ℕ) (bytes : List ℕ) (r : Result Message CoapFault) → IsFit f.kept.client
    → LeavesFit (on_datagram f server bytes r)
datagram_fit f server bytes (Ok m) h = message_fit f server m m.kind h
datagram_fit f server bytes (Err fault) h =
    either LeavesFit (claims_confirmable bytes) (sends f server (reset (claimed_mid bytes))) (silence f) h h

put_fit : (f : Machine) (place : Option FullPath) (value : Value) → IsFit f.kept.client
    → LeavesFit (on_put f place value)
put_fit f place value h =
    let stored = with_value_at f.kept.client.store place value in
    either LeavesFit (misses f.kept.client.catalog f.kept.client.store place value)
    (record { outputs = Act Missed ∷ []; flat = f })
    (record {
      outputs = [];
      flat = record { kept = with_client f.kept (with_stored f.kept.client stored); recorded = f.recorded };
    })
    h (stored_fit f.kept.client stored h)

firmware_fit : (f : Machine) (after : Option Stored) → IsFit f.kept.client → LeavesFit (on_firmware f after)
firmware_fit f None h = h
firmware_fit f (Some stored) h = stored_fit f.kept.client stored h

event_fit : (f : Machine) (event : Event) → IsFit f.kept.client → LeavesFit (reaction_to f event)
event_fit f (Recv server bytes) h =
    either LeavesFit (has_account f.kept.client server) (on_datagram f server bytes (reading_of bytes)) (silence f)
    (datagram_fit f server bytes (reading_of bytes) h) h
event_fit f (Put path value) h = put_fit f (full_path path) value h
event_fit f (Firmware code) h = firmware_fit f (firmware_after f.kept.client.store (Ended code)) h
event_fit f (Tick n) h = h

events_fit : (f : Machine) (events : List Event) → IsFit f.kept.client → IsFit (flat_after_all f events).kept.client
events_fit f [] h = h
events_fit f (event ∷ events) h = events_fit (reaction_to f event).flat events (event_fit f event h)

start_fit : (class : Template) → IsFit (start_of class).client
start_fit class = record { valid = none_valid (start_of class).client refl; agree = none_agree }

sound : (client : Client) → IsFit client → HasSoundAttributes client
sound client h =
    record {
      valid = h.valid;
      agree = λ server path. they_agree client.attributes server path (h.agree server path);
    }

pub events_keep : EventsKeepSound
events_keep f event h =
    let fit : IsFit f.kept.client = record {
      valid = h.valid;
      agree = λ server path. they_pass f.kept.client.attributes server path (h.agree server path);
    } in
    sound (reaction_to f event).flat.kept.client (event_fit f event fit)

pub reached_sound : ReachedAreSound
reached_sound class events =
    let f : Machine = record { kept = start_of class; recorded = [] } in
    sound (flat_after_all f events).kept.client (events_fit f events (start_fit class))
