-- What follows from the table.
use Rattle.std.specs.Prelude.{◌≡◌, ◌≢◌, ℕ, pos, true, List, Option, None, Some}
use Rattle.lwm2m_values.specs.declared.value.Value.{Value}
use Rattle.lwm2m_values.specs.declared.value.Value.TheVariants.{Text, Whole}
use Rattle.object_defs.specs.Numbers.{package_uri, update_state, update_result}
use Rattle.object_defs.specs.Path.{single_of}
use Rattle.object_defs.specs.declared.path.FullPath.{FullPath}
use Rattle.instance_store.specs.Stored.{Stored, value_at, has_instance}
use Rattle.device_firmware.specs.declared.event.FirmwareEvent.{FirmwareEvent}
use Rattle.device_firmware.specs.declared.event.FirmwareEvent.TheVariants.{Cleared}
use Rattle.device_firmware.specs.declared.state.State.TheVariants.{Idle}
use Rattle.device_firmware.specs.declared.state.Outcome.{Outcome}
use Rattle.device_firmware.specs.Firmware.{firmware, firmware_resource, firmware_value, firmware_after, outcome_in}
use Rattle.device_firmware.specs.Firmware.{state_in, uri_of, to}

-- clearing is taken in any state
abbrev pub ClearingIsTaken : Type 0
ClearingIsTaken = (stored : Stored) → has_instance stored firmware ≡ true → outcome_in stored Cleared ≡ Some (to Idle 0)

-- after an event the State and the Update Result are those of the table
abbrev pub OutcomeIsHeld : Type 0
OutcomeIsHeld =
    (stored after : Stored) (event : FirmwareEvent) (outcome : Outcome) → outcome_in stored event ≡ Some outcome
    → firmware_after stored event ≡ Some after → (state_in after ≡ Some outcome.state)
    × (firmware_value after update_result ≡ Some (Whole (pos outcome.code)))

-- the Package URI is the new one, where there is one; else it stays
abbrev pub uri_after : Option Value → Option (List ℕ) → Option Value
uri_after old None = old
uri_after old (Some text) = Some (Text text)

abbrev pub UriIsHeld : Type 0
UriIsHeld =
    (stored after : Stored) (event : FirmwareEvent) → firmware_after stored event ≡ Some after
    → firmware_value after package_uri ≡ uri_after (firmware_value stored package_uri) (uri_of event)

-- no other value changes, the Package's among them, and no instance
abbrev pub OthersStay : Type 0
OthersStay =
    (stored after : Stored) (event : FirmwareEvent) (q : FullPath) → firmware_after stored event ≡ Some after
    → q ≢ single_of (firmware_resource package_uri) → q ≢ single_of (firmware_resource update_state)
    → q ≢ single_of (firmware_resource update_result)
    → (value_at after q ≡ value_at stored q) × (after.instances ≡ stored.instances)
