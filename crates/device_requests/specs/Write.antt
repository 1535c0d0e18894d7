-- What a Write answers and changes (OMA LwM2M 1.1 Core, Write: Replace and Partial Update).
use Rattle.std.specs.Prelude.{ℕ, Bool, false, List, Option, None, Some, is_some, option_map, Result, Err}
use Rattle.std.specs.Prelude.{option_and_then, if◌then◌else◌}
use Rattle.object_defs.specs.Numbers.{firmware_update_object, update_package, package_uri}
use Rattle.object_defs.specs.Catalog.{definition_of}
use Rattle.object_defs.specs.declared.definition.ObjectDef.{ObjectDef}
use Rattle.object_defs.specs.declared.definition.ResourceDef.{ResourceDef}
use Rattle.object_defs.specs.declared.path.Path.{Path}
use Rattle.object_defs.specs.declared.path.Path.TheVariants.{Object, Instance, Resource, Part}
use Rattle.object_defs.specs.declared.path.ResourcePath.{ResourcePath}
use Rattle.instance_store.specs.Stored.{Stored}
use Rattle.lwm2m_payloads.specs.declared.format.Format.{Format}
use Rattle.std.specs.Option.{unwrap_or}
use Rattle.std.specs.Result.{result_ok}
use Rattle.lwm2m_payloads.specs.declared.counts.Excess.{Excess}
use Rattle.lwm2m_payloads.specs.declared.fault.PayloadFault.{PayloadFault}
use Rattle.lwm2m_payloads.specs.declared.fault.PayloadFault.TheVariants.{NotTlv}
use Rattle.lwm2m_values.specs.declared.value.Value.TheVariants.{Text, Opaque}
use Rattle.device_firmware.specs.Firmware.{event_of_package, event_of_uri, firmware_after}
use Rattle.device_firmware.specs.declared.event.FirmwareEvent.{FirmwareEvent}
use Rattle.lwm2m_payloads.specs.declared.given.Given.{Given}
use Rattle.lwm2m_payloads.specs.declared.given.Given.TheVariants.{Single}
use Rattle.lwm2m_payloads.specs.declared.given.Mode.{Mode}
use Rattle.lwm2m_payloads.specs.declared.given.Mode.TheVariants.{Update}
use Rattle.lwm2m_payloads.specs.Changes.{is_kept_as, with_given, instance_written, excess_of, first_excess}
use Rattle.lwm2m_payloads.specs.Given.{instance_given, resource_given, part_given}
use Rattle.lwm2m_payloads.specs.Results.{result_map}
use Rattle.device_requests.specs.declared.write.NewValues.{NewValues}
use Rattle.device_requests.specs.declared.write.NewValues.TheVariants.{Several, One}
use Rattle.device_requests.specs.declared.ruling.Ruling.{Ruling}
use Rattle.device_requests.specs.declared.ruling.Ruling.TheVariants.{Changed}
use Rattle.device_requests.specs.Answer.{Outcome, answer_alone, bare}
use Rattle.device_requests.specs.Read.{format_at}
use Rattle.device_requests.specs.Client.{Client, with_stored}
use Rattle.device_requests.specs.Targets.{is_resource, place_of, resource_place, resources_defined}

-- where there is no definition there is no target, and its fault is not told
abbrev pub given_to_resource : Option ResourceDef → Format → List ℕ → Result Given PayloadFault
given_to_resource None format payload = Err NotTlv
given_to_resource (Some d) format payload = resource_given d format payload

abbrev pub given_to_part : Option ResourceDef → ℕ → Format → List ℕ → Result Given PayloadFault
given_to_part None n format payload = Err NotTlv
given_to_part (Some d) n format payload = part_given d n format payload

-- what a payload of this format gives at the path, or what of it is at fault
abbrev pub values_judged : List ObjectDef → Path → List ℕ → Format → Result NewValues PayloadFault
values_judged catalog (Object o) payload format = Err NotTlv
values_judged catalog (Instance o i) payload format =
    result_map Several (instance_given (resources_defined catalog o) i payload)
values_judged catalog (Resource o i r) payload format =
    result_map One (given_to_resource (definition_of catalog o r) format payload)
values_judged catalog (Part o i r n) payload format =
    result_map One (given_to_part (definition_of catalog o r) n format payload)

-- what it gives, where it is good
abbrev pub values_given : List ObjectDef → Path → List ℕ → Format → Option NewValues
values_given catalog path payload format = result_ok (values_judged catalog path payload format)

abbrev pub new_values : Client → Path → Option ℕ → List ℕ → Option NewValues
new_values client path number payload =
    option_and_then (values_given client.catalog path payload) (format_at client.catalog path number)

-- a Write to a part leaves the other parts, a Write to a resource none of them
abbrev pub mode_at : Mode → Path → Mode
mode_at mode (Object o) = mode
mode_at mode (Instance o i) = mode
mode_at mode (Resource o i r) = mode
mode_at mode (Part o i r n) = Update

-- how many parts a resource would have, where these are more than it may have; what is not kept is not counted
abbrev pub resource_excess : Mode → Option ResourceDef → Stored → ResourcePath → Given → Option Excess
resource_excess mode definition stored p given =
    if is_kept_as definition
    then option_map (λ n. record { resource = p.resource; count = n }) (excess_of mode stored p given)
    else None

-- the first resource that would have more parts than it may
abbrev pub values_excess : Mode → List ObjectDef → Stored → Path → NewValues → Option Excess
values_excess mode catalog stored (Instance o i) (Several given) =
    first_excess mode (resources_defined catalog o) stored (place_of o i) given
values_excess mode catalog stored (Resource o i r) (One given) =
    resource_excess mode (definition_of catalog o r) stored (resource_place o i r) given
values_excess mode catalog stored (Part o i r n) (One given) =
    resource_excess mode (definition_of catalog o r) stored (resource_place o i r) given
values_excess mode catalog stored path values = None

-- the first resource that would have more parts than it may after a Write, where that gives something
abbrev pub write_excess : Client → Mode → Path → Option ℕ → List ℕ → Option Excess
write_excess client mode path number payload =
    option_and_then (values_excess (mode_at mode path) client.catalog client.store path)
    (new_values client path number payload)

-- some resource would have more
abbrev pub values_exceed : Mode → List ObjectDef → Stored → Path → NewValues → Bool
values_exceed mode catalog stored path values = is_some (values_excess mode catalog stored path values)

abbrev pub exceeds : Mode → List ObjectDef → Stored → Path → Option NewValues → Bool
exceeds mode catalog stored path None = false
exceeds mode catalog stored path (Some values) = values_exceed mode catalog stored path values

-- a write-only value is not kept
abbrev pub resource_written : Mode → Option ResourceDef → Stored → ResourcePath → Given → Stored
resource_written mode definition stored p given =
    if is_kept_as definition then with_given mode stored p given else stored

abbrev pub values_written : Mode → List ObjectDef → Stored → Path → NewValues → Stored
values_written mode catalog stored (Instance o i) (Several given) =
    instance_written mode (resources_defined catalog o) stored (place_of o i) given
values_written mode catalog stored (Resource o i r) (One given) =
    resource_written mode (definition_of catalog o r) stored (resource_place o i r) given
values_written mode catalog stored (Part o i r n) (One given) =
    resource_written mode (definition_of catalog o r) stored (resource_place o i r) given
values_written mode catalog stored path values = stored

-- the store after a Write that is not refused
abbrev pub after_write : Mode → List ObjectDef → Stored → Path → Option NewValues → Stored
after_write mode catalog stored path None = stored
after_write mode catalog stored path (Some values) = values_written mode catalog stored path values

-- what a Package is to the firmware, and what a Package URI is
abbrev pub package_in : NewValues → Option FirmwareEvent
package_in (One (Single (Opaque bytes))) = Some (event_of_package bytes)
package_in values = None

abbrev pub uri_in : NewValues → Option FirmwareEvent
uri_in (One (Single (Text text))) = Some (event_of_uri text)
uri_in values = None

-- to write the Package, or the Package URI, of Firmware Update is an event of the firmware
abbrev pub event_of : Path → Option NewValues → Option FirmwareEvent
event_of path None = None
event_of path (Some values) =
    if is_resource firmware_update_object update_package path then package_in values
    else if is_resource firmware_update_object package_uri path then uri_in values
    else None

-- a refusal changes nothing; else what is given is written
abbrev pub write_unless : Option Ruling → Client → Stored → Outcome
write_unless (Some ruling) client stored = answer_alone client (bare ruling)
write_unless None client stored = record { answer = bare Changed; client = with_stored client stored }

-- the store after a Write that is not refused: a Package is not kept, it is for the firmware, and so is a Package
-- URI
abbrev pub after_write_with_event : Mode → Client → Path → Option NewValues → Option FirmwareEvent → Stored
after_write_with_event mode client path values (Some event) = unwrap_or (firmware_after client.store event) client.store
after_write_with_event mode client path values None = after_write mode client.catalog client.store path values
