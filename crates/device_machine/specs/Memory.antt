-- Which events may take memory.
use Rattle.std.specs.Prelude.{ℕ, ◌+◌, ◌/◌, ◌%◌, ◌==◌, nat_le, Bool, true, false, not, ◌&&◌, ◌||◌}
use Rattle.std.specs.Prelude.{List, [], ◌∷◌, length, drop, slice_index, Option, None, Some, is_none, is_some}
use Rattle.std.specs.Option.{option_or, option_to_list}
use Rattle.coap_codec.specs.declared.fault.CoapFault.{CoapFault}
use Rattle.coap_codec.specs.declared.kind.Kind.{Kind}
use Rattle.coap_codec.specs.declared.kind.Kind.TheVariants.{Con, Non, Ack, Rst}
use Rattle.coap_codec.specs.Fault.{header_fault, is_empty_message, place_fault, token_length}
use Rattle.coap_codec.specs.Message.{Message}
use Rattle.device_firmware.specs.Firmware.{firmware_after, firmware_resource, is_ready}
use Rattle.device_firmware.specs.declared.event.FirmwareEvent.TheVariants.{Ended}
use Rattle.device_requests.specs.Client.{has_account}
use Rattle.device_machine.specs.declared.event.Event.{Event}
use Rattle.device_machine.specs.declared.event.Event.TheVariants.{Recv, Put, Firmware, Tick}
use Rattle.device_machine.specs.declared.recorded.Recorded.{Recorded}
use Rattle.device_notifications.specs.Progress.{does_act}
use Rattle.device_notifications.specs.Reach.{is_one_reached}
use Rattle.device_machine.specs.Reactions.{claims_confirmable, is_request, repeat_of, sweep_in}
use Rattle.device_machine.specs.State.{Machine, DeviceState, with_live_records, value_in}
use Rattle.device_template.specs.Values.{misses}
use Rattle.lwm2m_values.specs.Value.{holds_bytes, kind_of}
use Rattle.lwm2m_values.specs.declared.value.Value.{Value}
use Rattle.object_defs.specs.Numbers.{update_result, update_state}
use Rattle.object_defs.specs.Path.{full_path, single_of}
use Rattle.object_defs.specs.declared.path.FullPath.{FullPath}

-- what a repeated request gets takes memory where it is a datagram
abbrev pub again_takes_memory : Kind → Option (List ℕ) → Bool
again_takes_memory Con reply = is_some reply
again_takes_memory Non reply = false
again_takes_memory Ack reply = false
again_takes_memory Rst reply = false

-- a request that is no repeat is answered and recorded
abbrev pub request_takes_memory : Kind → Option Recorded → Bool
request_takes_memory kind None = true
request_takes_memory kind (Some r) = again_takes_memory kind r.reply

-- so may a message take memory that is a request, or is reset
abbrev pub message_takes_memory : Machine → ℕ → Message → Kind → Bool
message_takes_memory f server m Con = not (is_request m.code) || request_takes_memory Con (repeat_of f server m)
message_takes_memory f server m Non = is_request m.code && request_takes_memory Non (repeat_of f server m)
message_takes_memory f server m Ack = false
message_takes_memory f server m Rst = false

-- there is a header of version 1, and its type is non-confirmable (RFC 7252 section 3)
abbrev pub claims_non_confirmable : List ℕ → Bool
claims_non_confirmable bytes =
    nat_le 4 (length bytes) && (slice_index bytes 0 / 64 == 1 && slice_index bytes 0 / 16 % 4 == 1)

-- the format error of the header, or else of what stands first after the token: an option, or the payload marker
-- (section 3)
abbrev pub early_fault : List ℕ → Option CoapFault
early_fault bytes = option_or (header_fault bytes) (place_fault 0 (drop (4 + token_length bytes) bytes))

-- more than an Empty message, without an early format error: its token, options and payload are copied
abbrev pub is_copied : List ℕ → Bool
is_copied bytes = is_none (early_fault bytes) && not (is_empty_message bytes)

-- a datagram may take memory that claims to be confirmable, since it is answered or reset (section 4.2), or
-- non-confirmable, where it is copied (section 4.3); so no acknowledgement, no Reset and no other version does
abbrev pub datagram_takes_memory : List ℕ → Bool
datagram_takes_memory bytes = claims_confirmable bytes || (claims_non_confirmable bytes && is_copied bytes)

-- the header says that the bytes are ignored, whatever follows: it is no CON's, no NON's and not Empty
abbrev pub is_ignored : List ℕ → Bool
is_ignored bytes = not (claims_confirmable bytes || (claims_non_confirmable bytes || is_empty_message bytes))

-- an observation is there that one of these values reaches, so it is read anew once they have changed
abbrev pub is_observed : DeviceState → List FullPath → Bool
is_observed kept paths = is_one_reached paths kept.observations

-- a value may take memory that fits: a Text or an Opaque, one in a place where none is held, and one that reaches an
-- observation
abbrev pub put_takes_memory : DeviceState → Option FullPath → Value → Bool
put_takes_memory kept place value =
    not (misses kept.client.catalog kept.client.store place value)
    && ((holds_bytes (kind_of value) || is_none (value_in kept place)) || is_observed kept (option_to_list place))

-- the State and the Update Result, which an end of a download or an update sets
abbrev pub outcome_paths : List FullPath
outcome_paths = single_of (firmware_resource update_state) ∷ single_of (firmware_resource update_result) ∷ []

-- an end of a download or an update may take memory that there is: where the two are not both held, and where one of
-- them reaches an observation
abbrev pub end_takes_memory : DeviceState → ℕ → Bool
end_takes_memory kept code =
    is_some (firmware_after kept.client.store (Ended code))
    && (not (is_ready kept.client.store (Ended code)) || is_observed kept outcome_paths)

-- an event may take memory: such a datagram of a server that has an account, such a value, such an end of a download or
-- an update, and seconds in which something is sent for an observation, or one is removed
abbrev pub event_takes_memory : DeviceState → Event → Bool
event_takes_memory kept (Recv server bytes) = has_account kept.client server && datagram_takes_memory bytes
event_takes_memory kept (Put path value) = put_takes_memory kept (full_path path) value
event_takes_memory kept (Firmware code) = end_takes_memory kept code
event_takes_memory kept (Tick count) = does_act (sweep_in kept count) kept.observations

-- what a device keeps of a flat state after an event: a tick ends the life of requests, and those are forgotten
abbrev pub remembered_flat : Machine → Event → Machine
remembered_flat f (Recv server bytes) = f
remembered_flat f (Put path value) = f
remembered_flat f (Firmware code) = f
remembered_flat f (Tick seconds) = with_live_records f
