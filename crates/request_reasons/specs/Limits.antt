-- Rule 12: the State of the firmware, and the limits of what is shown and stored (this profile).
use Rattle.std.specs.Prelude.{◌≡◌, ℕ, ◌==◌, pos, negsuc, true, List, Option, None, Some, if◌then◌else◌}
use Rattle.lwm2m_payloads.specs.declared.counts.Excess.{Excess}
use Rattle.lwm2m_payloads.specs.declared.given.Mode.{Mode}
use Rattle.lwm2m_values.specs.declared.value.Value.{Value}
use Rattle.lwm2m_values.specs.declared.value.Value.TheVariants.{Text, Whole, Flag, Opaque, Moment, Link}
use Rattle.object_defs.specs.Numbers.{update_state}
use Rattle.object_defs.specs.Path.{object_in}
use Rattle.object_defs.specs.declared.path.Path.{Path}
use Rattle.instance_store.specs.Stored.{Stored, has_instance}
use Rattle.device_firmware.specs.Firmware.{firmware, firmware_value}
use Rattle.device_instances.specs.declared.room.NoRoom.{NoRoom}
use Rattle.device_requests.specs.Client.{Client}
use Rattle.device_requests.specs.Create.{creation_lack, newborn}
use Rattle.device_requests.specs.Discover.{discover_payload}
use Rattle.device_requests.specs.Read.{read_payload}
use Rattle.device_requests.specs.Refusals.{Purpose, is_oversized, to_create, to_delete, to_discover, to_execute}
use Rattle.device_requests.specs.Refusals.{to_read, to_write, to_write_attributes}
use Rattle.device_requests.specs.Write.{write_excess}
use Rattle.request_reasons.specs.declared.limit.FirmwareState.{FirmwareState}
use Rattle.request_reasons.specs.declared.limit.FirmwareState.TheVariants as state
use Rattle.request_reasons.specs.declared.limit.Limit.{Limit}
use Rattle.request_reasons.specs.declared.limit.Limit.TheVariants.{Size, Parts, Room}

-- ---- the firmware

-- the states by their numbers
abbrev pub state_of : ℕ → FirmwareState
state_of n =
    if n == 0 then state.Idle
    else (if n == 1 then state.Downloading
    else (if n == 2 then state.Downloaded else (if n == 3 then state.Updating else state.NoState)))

abbrev pub state_as : Option Value → FirmwareState
state_as None = state.NoState
state_as (Some (Text _)) = state.NoState
state_as (Some (Whole (pos n))) = state_of n
state_as (Some (Whole (negsuc _))) = state.NoState
state_as (Some (Flag _)) = state.NoState
state_as (Some (Opaque _)) = state.NoState
state_as (Some (Moment _)) = state.NoState
state_as (Some (Link _ _)) = state.NoState

-- the State that a store holds, where it has the instance of Firmware Update
abbrev pub firmware_state_in : Stored → FirmwareState
firmware_state_in stored =
    if has_instance stored firmware then state_as (firmware_value stored update_state) else state.NoInstance

-- ---- the limits

-- a payload that would be sent has more bytes than it may
abbrev pub IsSizeLimit : List ℕ → Limit → Type 0
IsSizeLimit payload limit = (limit ≡ Size) × (is_oversized payload ≡ true)

-- the first resource that would have more parts than it may after a Write, and how many
abbrev pub IsPartsLimit : Client → Mode → Path → Option ℕ → List ℕ → Limit → Type 0
IsPartsLimit client mode path number payload limit =
    (excess : Excess) × (limit ≡ Parts excess) × (write_excess client mode path number payload ≡ Some excess)

-- the first limit that a new instance would pass: that of its object's instances, of a resource's parts, or of the
-- instances of Access Control
abbrev pub IsRoomLimit : Client → ℕ → List ℕ → Limit → Type 0
IsRoomLimit client object payload limit =
    (lack : NoRoom) × (limit ≡ Room lack)
    × (creation_lack client object (newborn client object payload) ≡ Some lack)

-- the limit that a request would pass
abbrev pub IsLimit : Client → ℕ → Path → Purpose → Limit → Type 0
IsLimit client server path (to_read accept) limit = IsSizeLimit (read_payload client server path accept) limit
IsLimit client server path to_discover limit = IsSizeLimit (discover_payload client server path) limit
IsLimit client server path (to_write mode number payload) limit = IsPartsLimit client mode path number payload limit
IsLimit client server path (to_write_attributes queries) limit = ⊥
IsLimit client server path (to_create number payload) limit = IsRoomLimit client (object_in path) payload limit
IsLimit client server path (to_execute number payload) limit = ⊥
IsLimit client server path to_delete limit = ⊥
