-- What a Write changes (OMA LwM2M 1.1 Core, Write: Replace and Partial Update).
use Rattle.std.specs.Prelude.{◌≡◌, ℕ, ◌+◌, ◌-◌, ◌^◌, ◌==◌, nat_lt, min, Bool, false, not, ◌&&◌, List, [], ◌∷◌, length}
use Rattle.std.specs.Prelude.{find, Option, None, Some, is_some, option_map, option_and_then, if◌then◌else◌}
use Rattle.std.specs.List.{filter, list_any}
use Rattle.object_defs.specs.Catalog.{resource_in}
use Rattle.object_defs.specs.Operations.{can_read, can_write}
use Rattle.object_defs.specs.Path.{single_of, part_of}
use Rattle.object_defs.specs.declared.definition.ResourceDef.{ResourceDef}
use Rattle.object_defs.specs.declared.path.InstancePath.{InstancePath}
use Rattle.object_defs.specs.declared.path.ResourcePath.{ResourcePath}
use Rattle.instance_store.specs.Stored.{Stored, value_at, parts_of, resource_path, with_value, without_values}
use Rattle.lwm2m_payloads.specs.declared.counts.Excess.{Excess}
use Rattle.lwm2m_payloads.specs.declared.given.Assignment.{Assignment}
use Rattle.lwm2m_payloads.specs.declared.given.Given.{Given}
use Rattle.lwm2m_payloads.specs.declared.given.Given.TheVariants.{Single, Parts}
use Rattle.lwm2m_payloads.specs.declared.given.Mode.{Mode}
use Rattle.lwm2m_payloads.specs.declared.given.Mode.TheVariants.{Replace, Update}
use Rattle.lwm2m_payloads.specs.PartList.{PartList}

abbrev pub resource_of : InstancePath → ℕ → ResourcePath
resource_of place r = record { object = place.object; instance = place.instance; resource = r }

-- with these parts of a resource
abbrev pub with_parts : Stored → ResourcePath → PartList → Stored
with_parts stored p [] = stored
with_parts stored p (e ∷ es) = with_parts (with_value stored (part_of p e.0) e.1) p es

-- Replace leaves a multiple resource exactly the parts given; Update sets them, and leaves the others
abbrev pub with_given : Mode → Stored → ResourcePath → Given → Stored
with_given mode stored p (Single value) = with_value stored (single_of p) value
with_given Replace stored p (Parts parts) = with_parts (without_values stored (resource_path p)) p parts
with_given Update stored p (Parts parts) = with_parts stored p parts

abbrev pub is_kept_as : Option ResourceDef → Bool
is_kept_as None = false
is_kept_as (Some d) = can_read d.ops

-- the value of a write-only resource is not kept
abbrev pub is_kept : List ResourceDef → Assignment → Bool
is_kept resources a = is_kept_as (resource_in resources a.resource)

-- what is given is set, one resource after the other
abbrev pub with_assignments : Mode → List ResourceDef → Stored → InstancePath → List Assignment → Stored
with_assignments mode resources stored place [] = stored
with_assignments mode resources stored place (a ∷ given) =
    with_assignments mode resources (if is_kept resources a
    then with_given mode stored (resource_of place a.resource) a.given else stored) place given

-- Replace takes away the optional writable resources that are not named
abbrev pub is_lost : List Assignment → ResourceDef → Bool
is_lost given d = not d.mandatory && (can_write d.ops && not (list_any (λ a. a.resource == d.id) given))

abbrev pub without_lost : List ResourceDef → Stored → InstancePath → List Assignment → Stored
without_lost [] stored place given = stored
without_lost (d ∷ ds) stored place given =
    without_lost ds (if is_lost given d then without_values stored (resource_path (resource_of place d.id)) else stored)
    place given

-- an instance after a Write
abbrev pub instance_written : Mode → List ResourceDef → Stored → InstancePath → List Assignment → Stored
instance_written Replace resources stored place given =
    with_assignments Replace resources (without_lost resources stored place given) place given
instance_written Update resources stored place given = with_assignments Update resources stored place given

-- the number is none of the parts given
abbrev pub is_other : PartList → ℕ → Bool
is_other parts n = not (list_any (λ e. e.0 == n) parts)

-- how many parts a resource has after a change
abbrev pub parts_behind : Mode → Stored → ResourcePath → PartList → ℕ
parts_behind Replace stored p parts = length parts
parts_behind Update stored p parts = length parts + length (filter (is_other parts) (parts_of stored p))

-- parts are given to a resource that keeps its others
abbrev pub KeepsParts : Mode → Given → Type 0
KeepsParts mode (Single value) = ⊥
KeepsParts mode (Parts parts) = mode ≡ Update

-- a count of parts, where it is more than 32; one above 2^64 - 1 is told as that
abbrev pub above_limit : ℕ → Option ℕ
above_limit count = if nat_lt 32 count then Some (min count (2 ^ 64 - 1)) else None

-- how many parts a resource would have, where these are more than 32 (this profile)
abbrev pub excess_of : Mode → Stored → ResourcePath → Given → Option ℕ
excess_of mode stored p (Single value) = None
excess_of mode stored p (Parts parts) = above_limit (parts_behind mode stored p parts)

-- a resource has 32 parts at most
abbrev pub is_too_many : Mode → Stored → ResourcePath → Given → Bool
is_too_many mode stored p given = is_some (excess_of mode stored p given)

-- an assignment that is kept, and exceeds
abbrev pub excess_by : Mode → List ResourceDef → Stored → InstancePath → Assignment → Option Excess
excess_by mode resources stored place a =
    if is_kept resources a
    then option_map (λ n. record { resource = a.resource; count = n })
    (excess_of mode stored (resource_of place a.resource) a.given)
    else None

-- the first of these
abbrev pub first_excess : Mode → List ResourceDef → Stored → InstancePath → List Assignment → Option Excess
first_excess mode resources stored place given =
    option_and_then (excess_by mode resources stored place)
    (find (λ a. is_some (excess_by mode resources stored place a)) given)

-- some resource would have more
abbrev pub has_too_many : Mode → List ResourceDef → Stored → InstancePath → List Assignment → Bool
has_too_many mode resources stored place given = is_some (first_excess mode resources stored place given)

-- something that a resource is given has no value there to replace: Replace has removed its parts by then
abbrev pub gives_new : Mode → Stored → ResourcePath → Given → Bool
gives_new mode stored p (Single value) = not (is_some (value_at stored (single_of p)))
gives_new Replace stored p (Parts parts) = nat_lt 0 (length parts)
gives_new Update stored p (Parts parts) = list_any (λ e. not (is_some (value_at stored (part_of p e.0)))) parts

-- some resource is given something new
abbrev pub has_new : Mode → List ResourceDef → Stored → InstancePath → List Assignment → Bool
has_new mode resources stored place given =
    list_any (λ a. is_kept resources a && gives_new mode stored (resource_of place a.resource) a.given) given
