-- What leaves a device's clock as it is: all but a tick.
use Rattle.std.proofs.Common.{◌≡◌, ℕ, ◌==◌, Bool, true, false, List, Option, None, Some, Result, Ok, Err, if◌then◌else◌}
use Rattle.std.proofs.Common.{refl}
use Rattle.coap_codec.specs.declared.kind.Kind.{Kind}
use Rattle.coap_codec.specs.declared.kind.Kind.TheVariants.{Con, Non, Ack, Rst}
use Rattle.coap_codec.specs.declared.fault.CoapFault.{CoapFault}
use Rattle.coap_codec.specs.Message.{Message}
use Rattle.coap_codec.specs.Reading.{reading_of}
use Rattle.device_requests.specs.Client.{has_account}
use Rattle.device_requests.specs.Request.{outcome_of}
use Rattle.device_template.specs.Values.{misses}
use Rattle.device_firmware.specs.Firmware.{firmware_after}
use Rattle.device_firmware.specs.declared.event.FirmwareEvent.TheVariants.{Ended}
use Rattle.instance_store.specs.Stored.{Stored}
use Rattle.lwm2m_values.specs.declared.value.Value.{Value}
use Rattle.object_defs.specs.Path.{full_path}
use Rattle.object_defs.specs.declared.path.Path.{Path}
use Rattle.device_machine.specs.declared.recorded.Recorded.{Recorded}
use Rattle.device_machine.specs.Observing.{observe_result}
use Rattle.device_machine.specs.State.{Machine, with_client, with_observations}
use Rattle.device_machine.specs.Reactions.{Reaction, reply_to, repeat_of, on_request, on_message}
use Rattle.device_machine.specs.Reactions.{on_datagram, on_firmware, is_request, claims_confirmable, flat_after}
use Rattle.device_machine.specs.declared.event.Event.TheVariants.{Recv, Put, Firmware}
use Rattle.device_machine.proofs.Living.{clock_after}

either_keeps : (f : Machine) (b : Bool) (x y : Reaction) → x.flat.kept.clock ≡ f.kept.clock
    → y.flat.kept.clock ≡ f.kept.clock → (if b then x else y).flat.kept.clock ≡ f.kept.clock
either_keeps f true x y p q = p
either_keeps f false x y p q = q

request_keeps : (f : Machine) (server : ℕ) (m : Message) (r : Option Recorded)
    → (on_request f server m r).flat.kept.clock ≡ f.kept.clock
request_keeps f server m None =
    let o = outcome_of f.kept.client server m in
    let n = observe_result (with_client f.kept o.client) server m o.answer in
    clock_after (with_observations (with_client f.kept o.client) n.left) m.kind
    (reply_to f.kept.next_id m m.kind n.number o.answer)
request_keeps f server m (Some r) = refl

message_keeps : (f : Machine) (server : ℕ) (m : Message) (kind : Kind)
    → (on_message f server m kind).flat.kept.clock ≡ f.kept.clock
message_keeps f server m Con =
    either_keeps f (is_request m.code) _ _ (request_keeps f server m (repeat_of f server m)) refl
message_keeps f server m Non =
    either_keeps f (is_request m.code) _ _ (request_keeps f server m (repeat_of f server m)) refl
message_keeps f server m Ack = either_keeps f (m.code == 0) _ _ refl refl
message_keeps f server m Rst = either_keeps f (m.code == 0) _ _ refl refl

datagram_keeps : (f : Machine) (server : ℕ) (bytes : List ℕ) (reading : Result Message CoapFault)
    → (on_datagram f server bytes reading).flat.kept.clock ≡ f.kept.clock
datagram_keeps f server bytes (Ok m) = message_keeps f server m m.kind
datagram_keeps f server bytes (Err fault) = either_keeps f (claims_confirmable bytes) _ _ refl refl

pub recv_clock : (f : Machine) (server : ℕ) (bytes : List ℕ)
    → (flat_after f (Recv server bytes)).kept.clock ≡ f.kept.clock
recv_clock f server bytes =
    either_keeps f (has_account f.kept.client server) _ _ (datagram_keeps f server bytes (reading_of bytes)) refl

pub put_clock : (f : Machine) (path : Path) (value : Value) → (flat_after f (Put path value)).kept.clock ≡ f.kept.clock
put_clock f path value =
    either_keeps f (misses f.kept.client.catalog f.kept.client.store (full_path path) value) _ _ refl refl

firmware_keeps : (f : Machine) (stored : Option Stored) → (on_firmware f stored).flat.kept.clock ≡ f.kept.clock
firmware_keeps f None = refl
firmware_keeps f (Some stored) = refl

pub firmware_clock : (f : Machine) (code : ℕ) → (flat_after f (Firmware code)).kept.clock ≡ f.kept.clock
firmware_clock f code = firmware_keeps f (firmware_after f.kept.client.store (Ended code))
