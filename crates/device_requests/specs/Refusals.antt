-- The rules that refuse an operation, as one table for all operations (OMA LwM2M 1.1 Core and Transport): for each rule
-- when it refuses which operation, by the kind of path, the right and the kind of resource; then the rules in their
-- order. The outcome of every operation is defined by it (`Outcomes`). The numbers are those of the rules in
-- docs/device/requests.md.
use Rattle.std.specs.Prelude.{ℕ, ◌==◌, nat_lt, Bool, true, false, not, ◌&&◌, ◌||◌, List, [], ◌∷◌, ◌++◌, length}
use Rattle.std.specs.Prelude.{Option, None, Some, is_some, if◌then◌else◌}
use Rattle.access_control.specs.declared.letters.Rights.{Rights}
use Rattle.object_defs.specs.Numbers.{security_object, server_object, access_control_object, device_object}
use Rattle.object_defs.specs.Numbers.{firmware_update_object, update}
use Rattle.object_defs.specs.Catalog.{object_of, definition_of}
use Rattle.object_defs.specs.Lines.{first_line}
use Rattle.object_defs.specs.Operations.{can_execute, can_write}
use Rattle.object_defs.specs.Path.{object_in}
use Rattle.object_defs.specs.declared.definition.ObjectDef.{ObjectDef}
use Rattle.object_defs.specs.declared.definition.ResourceDef.{ResourceDef}
use Rattle.object_defs.specs.declared.path.Path.{Path}
use Rattle.object_defs.specs.declared.path.Path.TheVariants.{Object, Instance, Resource, Part}
use Rattle.instance_store.specs.Stored.{Stored, has_instance}
use Rattle.device_firmware.specs.Firmware.{firmware_after}
use Rattle.device_firmware.specs.declared.event.FirmwareEvent.{FirmwareEvent}
use Rattle.device_firmware.specs.declared.event.FirmwareEvent.TheVariants.{Update}
use Rattle.lwm2m_payloads.specs.Formats.{format_number}
use Rattle.lwm2m_payloads.specs.Scanning.{are_arguments}
use Rattle.lwm2m_payloads.specs.declared.format.Format.TheVariants.{PlainText, Tlv}
use Rattle.lwm2m_payloads.specs.declared.given.Mode.{Mode}
use Rattle.device_requests.specs.declared.ruling.Ruling.{Ruling}
use Rattle.device_requests.specs.declared.ruling.Ruling.TheVariants.{Security, Target, Right, Operation, Accept}
use Rattle.device_requests.specs.declared.ruling.Ruling.TheVariants.{ContentFormat}
use Rattle.device_requests.specs.declared.ruling.Ruling.TheVariants.{Payload, State, Limit, Created, Deleted, Changed}
use Rattle.device_requests.specs.declared.ruling.Ruling.TheVariants.{Content}
use Rattle.device_requests.specs.Access.{may_read, rights_on}
use Rattle.device_requests.specs.Client.{Client}
use Rattle.device_requests.specs.Create.{lacks_room, newborn}
use Rattle.device_requests.specs.Discover.{discover_payload}
use Rattle.device_requests.specs.Read.{format_at, read_payload}
use Rattle.device_requests.specs.Targets.{definition_at, exists, is_multiple, is_readable, is_resource, place_of}
use Rattle.device_requests.specs.Write.{event_of, exceeds, mode_at, new_values}
use Rattle.device_requests.specs.WriteAttributes.{attributes_given}

-- what a request is for, with what it says beside its path: the format that Accept, or Content-Format, names, its
-- queries and its payload
pub data Purpose : Type 0 where
  to_read : (accept : Option ℕ) → Purpose
  to_discover : Purpose
  to_write : (mode : Mode) (format : Option ℕ) (payload : List ℕ) → Purpose
  to_write_attributes : (queries : List (List ℕ)) → Purpose
  to_create : (format : Option ℕ) (payload : List ℕ) → Purpose
  to_execute : (format : Option ℕ) (payload : List ℕ) → Purpose
  to_delete : Purpose

-- ---- 7: the target

-- a Write may give a resource its first value: a resource is there where it is defined, and any part where its resource
-- is multiple; the instance must exist
abbrev pub is_target : List ObjectDef → Stored → Path → Bool
is_target catalog stored (Object o) = false
is_target catalog stored (Instance o i) = is_some (object_of catalog o) && has_instance stored (place_of o i)
is_target catalog stored (Resource o i r) =
    is_some (definition_of catalog o r) && has_instance stored (place_of o i)
is_target catalog stored (Part o i r n) =
    is_multiple (definition_of catalog o r) && has_instance stored (place_of o i)

-- the target is not there
abbrev pub lacks_target : Client → Path → Purpose → Bool
lacks_target client path (to_write mode format payload) = not (is_target client.catalog client.store path)
lacks_target client path purpose = not (exists client.catalog client.store path)

-- ---- 8: the right

-- the right that Write-Attributes asks for: to read; on instances of Access Control to write
abbrev pub annotates : Rights → ℕ → Bool
annotates rights object = if object == access_control_object then rights.write else rights.read

-- on an object it asks for none
abbrev pub annotates_at : Rights → Path → Bool
annotates_at rights (Object o) = true
annotates_at rights (Instance o i) = annotates rights o
annotates_at rights (Resource o i r) = annotates rights o
annotates_at rights (Part o i r n) = annotates rights o

abbrev pub may_annotate : Client → ℕ → Path → Bool
may_annotate client server path = annotates_at (rights_on client server path) path

-- the server has no right to the operation; Discover asks for none
abbrev pub lacks_right : Client → ℕ → Path → Purpose → Bool
lacks_right client server path (to_read accept) = not (may_read client server path)
lacks_right client server path to_discover = false
lacks_right client server path (to_write mode format payload) = not (rights_on client server path).write
lacks_right client server path (to_write_attributes queries) = not (may_annotate client server path)
lacks_right client server path (to_create format payload) = not (rights_on client server path).create
lacks_right client server path (to_execute format payload) = not (rights_on client server path).execute
lacks_right client server path to_delete = not (rights_on client server path).delete

-- ---- 9: the operation

-- an object and an instance can be read, a resource and its parts where the resource has that operation
abbrev pub can_be_read : List ObjectDef → Path → Bool
can_be_read catalog (Object _) = true
can_be_read catalog (Instance _ _) = true
can_be_read catalog (Resource o i r) = is_readable (definition_at catalog (Resource o i r))
can_be_read catalog (Part o i r n) = is_readable (definition_at catalog (Part o i r n))

abbrev pub is_writable : Option ResourceDef → Bool
is_writable None = false
is_writable (Some d) = can_write d.ops

-- an instance can be written but one of Firmware Update, a resource and its parts where the resource has that operation
abbrev pub can_be_written : List ObjectDef → Path → Bool
can_be_written catalog (Object o) = false
can_be_written catalog (Instance o i) = not (o == firmware_update_object)
can_be_written catalog (Resource o i r) = is_writable (definition_of catalog o r)
can_be_written catalog (Part o i r n) = is_writable (definition_of catalog o r)

abbrev pub is_executable : Option ResourceDef → Bool
is_executable None = false
is_executable (Some d) = can_execute d.ops

-- servers create and delete no instances of Server, Access Control, Device and Firmware Update
abbrev pub is_fixed : ℕ → Bool
is_fixed object =
    object == server_object || (object == access_control_object
    || (object == device_object || object == firmware_update_object))

-- the resource, or the object, does not have the operation, whoever asks; all have Discover and Write-Attributes
abbrev pub lacks_operation : List ObjectDef → Path → Purpose → Bool
lacks_operation catalog path (to_read accept) = not (can_be_read catalog path)
lacks_operation catalog path to_discover = false
lacks_operation catalog path (to_write mode format payload) = not (can_be_written catalog path)
lacks_operation catalog path (to_write_attributes queries) = false
lacks_operation catalog path (to_create format payload) = is_fixed (object_in path)
lacks_operation catalog path (to_execute format payload) = not (is_executable (definition_at catalog path))
lacks_operation catalog path to_delete = is_fixed (object_in path)

-- ---- 10: the format

-- the values of a new instance are TLV; no Content-Format says the same
abbrev pub is_tlv : Option ℕ → Bool
is_tlv None = true
is_tlv (Some number) = number == format_number Tlv

-- arguments are plain text; no Content-Format says the same
abbrev pub is_plain : Option ℕ → Bool
is_plain None = true
is_plain (Some number) = number == format_number PlainText

-- the format that Accept names, or Content-Format, is not served there
abbrev pub lacks_format : List ObjectDef → Path → Purpose → Bool
lacks_format catalog path (to_read accept) = not (is_some (format_at catalog path accept))
lacks_format catalog path (to_write mode format payload) = not (is_some (format_at catalog path format))
lacks_format catalog path (to_create format payload) = not (is_tlv format)
lacks_format catalog path (to_execute format payload) = not (is_plain format)
lacks_format catalog path purpose = false

-- Accept names what is read, Content-Format what is given
abbrev pub format_ruling : Purpose → Ruling
format_ruling (to_read accept) = Accept
format_ruling purpose = ContentFormat

-- ---- 11: what is given

-- the payload, the queries or the arguments are not valid there
abbrev pub is_invalid : Client → ℕ → Path → Purpose → Bool
is_invalid client server path (to_write mode format payload) = not (is_some (new_values client path format payload))
is_invalid client server path (to_write_attributes queries) =
    not (is_some (attributes_given client server path queries))
is_invalid client server path (to_create format payload) = not (is_some (newborn client (object_in path) payload))
is_invalid client server path (to_execute format payload) = not (are_arguments payload)
is_invalid client server path purpose = false

-- ---- 12: the state of the firmware

-- the firmware does not take the event now, where there is one
abbrev pub is_refused_now : Stored → Option FirmwareEvent → Bool
is_refused_now stored None = false
is_refused_now stored (Some event) = not (is_some (firmware_after stored event))

-- Update of Firmware Update is taken in some states only
abbrev pub is_untimely : Stored → Path → Bool
is_untimely stored path = is_resource firmware_update_object update path && not (is_some (firmware_after stored Update))

-- the firmware does not take the Package, the Package URI or the Update now
abbrev pub is_out_of_turn : Client → Path → Purpose → Bool
is_out_of_turn client path (to_write mode format payload) =
    is_refused_now client.store (event_of path (new_values client path format payload))
is_out_of_turn client path (to_execute format payload) = is_untimely client.store path
is_out_of_turn client path purpose = false

-- ---- 12: the limits

-- what is for the firmware is not stored
abbrev pub unless_taken : Option FirmwareEvent → Bool → Bool
unless_taken None much = much
unless_taken (Some event) much = false

-- a payload that is sent has 1,024 bytes at most (this profile)
abbrev pub is_oversized : List ℕ → Bool
is_oversized payload = nat_lt 1024 (length payload)

-- more would be shown, or stored, than may be
abbrev pub is_too_much : Client → ℕ → Path → Purpose → Bool
is_too_much client server path (to_read accept) = is_oversized (read_payload client server path accept)
is_too_much client server path to_discover = is_oversized (discover_payload client server path)
is_too_much client server path (to_write mode format payload) =
    unless_taken (event_of path (new_values client path format payload))
    (exceeds (mode_at mode path) client.catalog client.store path (new_values client path format payload))
is_too_much client server path (to_create format payload) =
    lacks_room client (object_in path) (newborn client (object_in path) payload)
is_too_much client server path purpose = false

-- ---- the rules in their order

-- the rules that refuse an operation at a path. The first, 6, is that of the Security object
abbrev pub refusals_of : Client → ℕ → Path → Purpose → List (Bool × Ruling)
refusals_of client server path purpose =
    (object_in path == security_object, Security)
    ∷ (lacks_target client path purpose, Target)
    ∷ (lacks_right client server path purpose, Right)
    ∷ (lacks_operation client.catalog path purpose, Operation)
    ∷ (lacks_format client.catalog path purpose, format_ruling purpose)
    ∷ (is_invalid client server path purpose, Payload)
    ∷ (is_out_of_turn client path purpose, State)
    ∷ (is_too_much client server path purpose, Limit)
    ∷ []

-- the first rule that refuses it, where one does
abbrev pub refusal_of : Client → ℕ → Path → Purpose → Option Ruling
refusal_of client server path purpose = first_line (refusals_of client server path purpose)

-- the success of an operation
abbrev pub done_ruling : Purpose → Ruling
done_ruling (to_read accept) = Content
done_ruling to_discover = Content
done_ruling (to_create format payload) = Created
done_ruling to_delete = Deleted
done_ruling purpose = Changed

-- the rules with one more at the end, by which what is not refused is done
abbrev pub rules_of : Client → ℕ → Path → Purpose → List (Bool × Ruling)
rules_of client server path purpose =
    refusals_of client server path purpose ++ (true, done_ruling purpose) ∷ []
