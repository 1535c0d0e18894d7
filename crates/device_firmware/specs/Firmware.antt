-- Firmware update: what is taken in which state, and what it changes (OMA LwM2M 1.1 Core, object 5 Firmware Update; the
-- table is this profile's).
use Rattle.std.specs.Prelude.{ℕ, ◌==◌, nat_le, pos, negsuc, Bool, not, ◌&&◌, ◌||◌, List, [], ◌∷◌, Option, None, Some}
use Rattle.std.specs.Prelude.{is_some}
use Rattle.std.specs.Prelude.{is_none, option_map, if◌then◌else◌}
use Rattle.lwm2m_values.specs.declared.value.Value.{Value}
use Rattle.lwm2m_values.specs.declared.value.Value.TheVariants.{Text, Whole, Flag, Opaque, Moment, Link}
use Rattle.object_defs.specs.Numbers.{firmware_update_object, package_uri, update_state, update_result}
use Rattle.object_defs.specs.Path.{single_of}
use Rattle.object_defs.specs.declared.path.InstancePath.{InstancePath}
use Rattle.object_defs.specs.declared.path.ResourcePath.{ResourcePath}
use Rattle.instance_store.specs.Stored.{Stored, value_at, has_instance, with_value}
use Rattle.device_firmware.specs.declared.event.FirmwareEvent.{FirmwareEvent}
use Rattle.device_firmware.specs.declared.event.FirmwareEvent.TheVariants.{Cleared, Package, Uri, Update, Ended}
use Rattle.device_firmware.specs.declared.state.State.{State}
use Rattle.device_firmware.specs.declared.state.State.TheVariants.{Idle, Downloading, Downloaded, Updating}
use Rattle.device_firmware.specs.declared.state.Outcome.{Outcome}

-- the state in which an event leaves the device, and the Update Result
abbrev pub to : State → ℕ → Outcome
to state code = record { state = state; code = code }

-- codes 2 to 7 and 9 say why a download or an update has failed
abbrev pub is_failure : ℕ → Bool
is_failure c = nat_le 2 c && (nat_le c 9 && not (c == 8))

-- a download ends with code 0, or with a failure
abbrev pub downloading_ended : ℕ → Option Outcome
downloading_ended c = if c == 0 then Some (to Downloaded 0) else if is_failure c then Some (to Idle c) else None

-- an update ends with code 1; with code 8, which leaves the package; or with a failure
abbrev pub updating_ended : ℕ → Option Outcome
updating_ended c =
    if c == 1 then Some (to Idle 1) else if c == 8 then Some (to Downloaded 8) else if is_failure c
    then Some (to Idle c) else None

-- the table: what an event leads to in a state; None where it isn't taken
abbrev pub next : FirmwareEvent → State → Option Outcome
next Cleared state = Some (to Idle 0)
next Package Idle = Some (to Downloaded 0)
next Package Downloaded = Some (to Downloaded 0)
next Package Downloading = None
next Package Updating = None
next (Uri text) Idle = Some (to Downloading 0)
next (Uri text) Downloading = None
next (Uri text) Downloaded = None
next (Uri text) Updating = None
next Update Downloaded = Some (to Updating 0)
next Update Idle = None
next Update Downloading = None
next Update Updating = None
next (Ended c) Downloading = downloading_ended c
next (Ended c) Updating = updating_ended c
next (Ended c) Idle = None
next (Ended c) Downloaded = None

-- the same for a State that may be missing or invalid: then clearing alone is taken
abbrev pub next_from : FirmwareEvent → Option State → Option Outcome
next_from event (Some state) = next event state
next_from Cleared None = Some (to Idle 0)
next_from Package None = None
next_from (Uri text) None = None
next_from Update None = None
next_from (Ended c) None = None

-- a Package that is empty or one zero byte clears, and so does an empty Package URI
abbrev pub event_of_package : List ℕ → FirmwareEvent
event_of_package [] = Cleared
event_of_package (b ∷ []) = if b == 0 then Cleared else Package
event_of_package (b ∷ c ∷ bytes) = Package

abbrev pub event_of_uri : List ℕ → FirmwareEvent
event_of_uri [] = Cleared
event_of_uri (c ∷ text) = Uri (c ∷ text)

-- instance 0 of Firmware Update, and a resource of it
abbrev pub firmware : InstancePath
firmware = record { object = firmware_update_object; instance = 0 }

abbrev pub firmware_resource : ℕ → ResourcePath
firmware_resource resource = record { object = firmware_update_object; instance = 0; resource = resource }

-- the states by their numbers
abbrev pub state_number : State → ℕ
state_number Idle = 0
state_number Downloading = 1
state_number Downloaded = 2
state_number Updating = 3

abbrev pub state_of : ℕ → Option State
state_of n =
    if n == 0 then Some Idle else if n == 1 then Some Downloading else if n == 2 then Some Downloaded else if n == 3
    then Some Updating else None

abbrev pub state_as : Option Value → Option State
state_as None = None
state_as (Some (Text _)) = None
state_as (Some (Whole (pos n))) = state_of n
state_as (Some (Whole (negsuc _))) = None
state_as (Some (Flag _)) = None
state_as (Some (Opaque _)) = None
state_as (Some (Moment _)) = None
state_as (Some (Link _ _)) = None

-- the State that a store holds
abbrev pub state_in : Stored → Option State
state_in stored = state_as (value_at stored (single_of (firmware_resource update_state)))

-- what an event leads to in a store; without the instance it isn't taken
abbrev pub outcome_in : Stored → FirmwareEvent → Option Outcome
outcome_in stored event = if has_instance stored firmware then next_from event (state_in stored) else None

-- clearing empties the Package URI, and a new one is kept; all else leaves it, and no Package is kept
abbrev pub uri_of : FirmwareEvent → Option (List ℕ)
uri_of Cleared = Some []
uri_of (Uri text) = Some text
uri_of Package = None
uri_of Update = None
uri_of (Ended c) = None

abbrev pub with_uri : Stored → Option (List ℕ) → Stored
with_uri stored None = stored
with_uri stored (Some text) = with_value stored (single_of (firmware_resource package_uri)) (Text text)

-- with this State and Update Result
abbrev pub with_outcome : Stored → Outcome → Stored
with_outcome stored outcome =
    with_value
    (with_value stored (single_of (firmware_resource update_state)) (Whole (pos (state_number outcome.state))))
    (single_of (firmware_resource update_result)) (Whole (pos outcome.code))

-- a store after an event; None where it isn't taken
abbrev pub firmware_after : Stored → FirmwareEvent → Option Stored
firmware_after stored event = option_map (with_outcome (with_uri stored (uri_of event))) (outcome_in stored event)

-- the value of a resource of the instance
abbrev pub firmware_value : Stored → ℕ → Option Value
firmware_value stored number = value_at stored (single_of (firmware_resource number))

-- what an event sets is held: the State and the Update Result, and the Package URI where it changes
abbrev pub is_ready : Stored → FirmwareEvent → Bool
is_ready stored event =
    (is_some (firmware_value stored update_state) && is_some (firmware_value stored update_result))
    && (is_none (uri_of event) || is_some (firmware_value stored package_uri))
