-- What an Execute answers and changes, and what the device does after it (OMA LwM2M 1.1 Core, Execute).
use Rattle.std.specs.Prelude.{◌≡◌, ◌↔◌, ℕ, true, List, pos, Option, None, Some}
use Rattle.std.specs.Prelude.{if◌then◌else◌}
use Rattle.std.specs.Option.{unwrap_or}
use Rattle.lwm2m_values.specs.declared.value.Value.TheVariants.{Whole}
use Rattle.object_defs.specs.Numbers.{server_object, device_object}
use Rattle.object_defs.specs.Numbers.{firmware_update_object, disable, registration_update_trigger}
use Rattle.object_defs.specs.Numbers.{reboot, factory_reset, error_code, reset_error_code, update}
use Rattle.object_defs.specs.Path.{part_of}
use Rattle.object_defs.specs.declared.path.Path.{Path}
use Rattle.object_defs.specs.declared.path.Path.TheVariants.{Object, Instance, Resource, Part}
use Rattle.instance_store.specs.Stored.{Stored, resource_path, with_value, without_values}
use Rattle.device_firmware.specs.Firmware.{firmware_after}
use Rattle.device_firmware.specs.declared.event.FirmwareEvent.TheVariants.{Update}
use Rattle.lwm2m_payloads.specs.Arguments.{AreArguments}
use Rattle.lwm2m_payloads.specs.Scanning.{are_arguments}
use Rattle.device_requests.specs.declared.answer.Act.{Act}
use Rattle.device_requests.specs.declared.answer.Act.TheVariants.{Reboot, FactoryReset, RegUpdate, Disable}
use Rattle.device_requests.specs.declared.ruling.Ruling.{Ruling}
use Rattle.device_requests.specs.Answer.{Outcome, answer_alone, bare, done_answer}
use Rattle.device_requests.specs.Client.{Client, with_stored}
use Rattle.device_requests.specs.Targets.{is_resource, resource_place}

-- a payload passes the test of arguments exactly where it is arguments
abbrev pub ArgumentsAreTested : Type 0
ArgumentsAreTested = (payload : List ℕ) → (are_arguments payload ≡ true) ↔ AreArguments payload

-- what the device does then
abbrev pub act_of : Path → Option Act
act_of path =
    if is_resource device_object reboot path then Some Reboot
    else if is_resource device_object factory_reset path then Some FactoryReset
    else if is_resource server_object disable path then Some Disable
    else if is_resource server_object registration_update_trigger path then Some RegUpdate
    else None

-- Error Code is 0, no error, alone
abbrev pub with_no_error : Stored → Path → Stored
with_no_error stored (Object o) = stored
with_no_error stored (Instance o i) = stored
with_no_error stored (Resource o i r) =
    with_value (without_values stored (resource_path (resource_place o i error_code)))
    (part_of (resource_place o i error_code) 0) (Whole (pos 0))
with_no_error stored (Part o i r n) = stored

-- Update begins the update, Reset Error Code resets the error codes, the others change nothing
abbrev pub after_execute : Stored → Path → Stored
after_execute stored path =
    if is_resource firmware_update_object update path then unwrap_or (firmware_after stored Update) stored
    else if is_resource device_object reset_error_code path then with_no_error stored path
    else stored

-- a refusal changes nothing; else it is done, and the device acts
abbrev pub execute_unless : Option Ruling → Client → Path → Outcome
execute_unless (Some ruling) client path = answer_alone client (bare ruling)
execute_unless None client path =
    record { answer = done_answer (act_of path); client = with_stored client (after_execute client.store path) }
