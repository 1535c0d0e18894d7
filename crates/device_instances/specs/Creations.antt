-- A Create: what there has to be room for, and a store after it (OMA LwM2M 1.1 Core, Create and access control; the
-- limits are this profile's).
use Rattle.std.specs.Prelude.{ℕ, nat_le, pos, Bool, List, length, Option, None, Some, is_some, option_map}
use Rattle.std.specs.Prelude.{if◌then◌else◌}
use Rattle.std.specs.Option.{option_or}
use Rattle.lwm2m_values.specs.declared.value.Value.TheVariants.{Whole}
use Rattle.object_defs.specs.Numbers.{access_control_object, object_id, object_instance_id, acl, access_control_owner}
use Rattle.object_defs.specs.Path.{single_of}
use Rattle.object_defs.specs.declared.definition.ResourceDef.{ResourceDef}
use Rattle.object_defs.specs.declared.path.InstancePath.{InstancePath}
use Rattle.object_defs.specs.declared.path.ResourcePath.{ResourcePath}
use Rattle.instance_store.specs.Stored.{Stored, instances_of, resource_path, with_value, with_instance, without_values}
use Rattle.access_control.specs.Rights.{control}
use Rattle.lwm2m_payloads.specs.Changes.{first_excess, instance_written}
use Rattle.lwm2m_payloads.specs.declared.given.Assignment.{Assignment}
use Rattle.lwm2m_payloads.specs.declared.given.Mode.TheVariants.{Replace}
use Rattle.device_instances.specs.Numbers.{instance_at, smallest_free}
use Rattle.device_instances.specs.declared.room.NoRoom.{NoRoom}
use Rattle.device_instances.specs.declared.room.NoRoom.TheVariants as no_room

-- an object has 64 instances at most
abbrev pub is_full : Stored → ℕ → Bool
is_full stored object = nat_le 64 (length (instances_of stored object))

-- how many instances an object has, where it is full
abbrev pub full_count : Stored → ℕ → Option ℕ
full_count stored object = if is_full stored object then Some (length (instances_of stored object)) else None

-- why there is no room: the object is full; or a resource would have more than 32 parts; or, with two accounts or more,
-- Access Control is full
abbrev pub lack_of_room : Stored → ℕ → List ResourceDef → InstancePath → List Assignment → Option NoRoom
lack_of_room stored accounts resources place given =
    option_or (option_map (λ n. no_room.Instances n) (full_count stored place.object))
    (option_or (option_map (λ e. no_room.Parts e.resource e.count) (first_excess Replace resources stored place given))
    (if nat_le 2 accounts then option_map (λ n. no_room.Controls n) (full_count stored access_control_object)
    else None))

abbrev pub has_no_room : Stored → ℕ → List ResourceDef → InstancePath → List Assignment → Bool
has_no_room stored accounts resources place given = is_some (lack_of_room stored accounts resources place given)

abbrev pub with_number : Stored → ResourcePath → ℕ → Stored
with_number stored path number = with_value stored (single_of path) (Whole (pos number))

-- with an instance of Access Control that speaks of a place, belongs to a server, and has no entry in its ACL
abbrev pub with_control : Stored → ℕ → ℕ → InstancePath → Stored
with_control stored j server place =
    with_number (with_number (with_number
    (without_values (with_instance stored (instance_at access_control_object j)) (resource_path (control j acl)))
    (control j object_id) place.object) (control j object_instance_id) place.instance) (control j access_control_owner)
    server

abbrev pub with_control_at : Stored → ℕ → InstancePath → Option ℕ → Stored
with_control_at stored server place None = stored
with_control_at stored server place (Some j) = with_control stored j server place

-- one account alone needs none
abbrev pub with_control_for : Stored → ℕ → ℕ → InstancePath → Stored
with_control_for stored accounts server place =
    if nat_le 2 accounts then with_control_at stored server place (smallest_free stored access_control_object)
    else stored

-- with a new instance, which a server creates and is given this
abbrev pub with_created : Stored → ℕ → ℕ → List ResourceDef → InstancePath → List Assignment → Stored
with_created stored accounts server resources place given =
    instance_written Replace resources (with_instance (with_control_for stored accounts server place) place) place given
