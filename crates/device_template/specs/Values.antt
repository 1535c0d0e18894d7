-- When a value may stand at a path.
use Rattle.std.specs.Prelude.{◌==◌, nat_le, Bool, true, false, not, ◌&&◌, ◌||◌, List, length, Option, None, Some}
use Rattle.std.specs.Prelude.{is_some, if◌then◌else◌}
use Rattle.lwm2m_values.specs.declared.kind.ValueKind.{ValueKind}
use Rattle.lwm2m_values.specs.declared.kind.ValueKind.TheVariants as kind
use Rattle.lwm2m_values.specs.declared.value.Value.{Value}
use Rattle.lwm2m_values.specs.declared.value.Value.TheVariants.{Text, Whole, Flag, Opaque, Moment, Link}
use Rattle.lwm2m_values.specs.Value.{has_good_length}
use Rattle.object_defs.specs.Catalog.{object_of, resource_in}
use Rattle.object_defs.specs.Numbers.{firmware_update_object, package_uri, update_state, update_result}
use Rattle.object_defs.specs.Operations.{can_read}
use Rattle.object_defs.specs.declared.definition.ObjectDef.{ObjectDef}
use Rattle.object_defs.specs.declared.definition.ResourceDef.{ResourceDef}
use Rattle.object_defs.specs.declared.path.FullPath.{FullPath}
use Rattle.object_defs.specs.declared.path.InstancePath.{InstancePath}
use Rattle.object_defs.specs.declared.path.ResourcePath.{ResourcePath}
use Rattle.instance_store.specs.Stored.{Stored, value_at, has_instance, parts_of, with_value}

-- the value is of the kind
abbrev pub has_kind : Value → ValueKind → Bool
has_kind (Text _) kind.Text = true
has_kind (Whole _) kind.Whole = true
has_kind (Flag _) kind.Flag = true
has_kind (Opaque _) kind.Opaque = true
has_kind (Moment _) kind.Moment = true
has_kind (Link _ _) kind.Link = true
has_kind value kind = false

-- Package URI, State and Update Result, which the device itself sets at its start
abbrev pub is_set_at_start : FullPath → Bool
is_set_at_start p =
    p.object == firmware_update_object && (p.instance == 0
    && (p.resource == package_uri || (p.resource == update_state || p.resource == update_result)))

-- a resource that can be read, of the value's kind, which has parts exactly where the path names one
abbrev pub fits_resource : FullPath → Value → Option ResourceDef → Bool
fits_resource p value None = false
fits_resource p value (Some d) =
    can_read d.ops && (has_kind value d.kind && (if d.multiple then is_some p.part else not (is_some p.part)))

-- where the object is not known, nothing is asked of the resource
abbrev pub fits_object : FullPath → Value → Option ObjectDef → Bool
fits_object p value None = true
fits_object p value (Some o) = fits_resource p value (resource_in o.resources p.resource) && not (is_set_at_start p)

-- a value within its limits, which the definition at its path takes
abbrev pub fits : List ObjectDef → FullPath → Value → Bool
fits catalog p value = has_good_length value && fits_object p value (object_of catalog p.object)

abbrev pub instance_at : FullPath → InstancePath
instance_at p = record { object = p.object; instance = p.instance }

abbrev pub resource_at : FullPath → ResourcePath
resource_at p = record { object = p.object; instance = p.instance; resource = p.resource }

-- the object and the instance are there
abbrev pub has_place : List ObjectDef → Stored → FullPath → Bool
has_place catalog stored p = is_some (object_of catalog p.object) && has_instance stored (instance_at p)

-- the resource has the 32 parts that it may have
abbrev pub has_all_parts : Stored → FullPath → Bool
has_all_parts stored p = is_some p.part && nat_le 32 (length (parts_of stored (resource_at p)))

-- a new part of a resource that has all that it may have
abbrev pub is_one_too_many : Stored → FullPath → Bool
is_one_too_many stored p = not (is_some (value_at stored p)) && has_all_parts stored p

-- with a value where the path is one of three or four numbers
abbrev pub with_value_at : Stored → Option FullPath → Value → Stored
with_value_at stored None value = stored
with_value_at stored (Some p) value = with_value stored p value

-- a new value does not fit: not at its path, in no instance that is there, or as a 33rd part
abbrev pub misses : List ObjectDef → Stored → Option FullPath → Value → Bool
misses catalog stored None value = true
misses catalog stored (Some p) value =
    not (fits catalog p value) || (not (has_place catalog stored p) || is_one_too_many stored p)
