-- Vendor objects: how a catalog grows by them and by their resources, and what it refuses.
use Rattle.std.specs.Prelude.{ℕ, ◌==◌, nat_lt, nat_le, Bool, true, false, not, ◌&&◌, List, [], ◌∷◌, length, Option}
use Rattle.std.specs.Prelude.{None, Some, is_some, if◌then◌else◌}
use Rattle.lwm2m_values.specs.declared.kind.ValueKind.{ValueKind}
use Rattle.lwm2m_values.specs.declared.kind.ValueKind.TheVariants.{Text, Whole, Flag, Opaque, Moment, Link}
use Rattle.object_defs.specs.declared.definition.ResourceDef.{ResourceDef}
use Rattle.object_defs.specs.declared.definition.ObjectDef.{ObjectDef}
use Rattle.object_defs.specs.declared.fault.CatalogFault.{CatalogFault}
use Rattle.object_defs.specs.declared.fault.CatalogFault.TheVariants.{IdRange, Duplicate, TooMany}
use Rattle.object_defs.specs.Catalog.{object_of, resource_in}
use Rattle.object_defs.specs.Lines.{first_line}
use Rattle.object_defs.specs.Operations.{can_execute}

-- in a list by ascending number, with one more: it stands before the first of a higher number
abbrev pub with_inserted : {X : Type 0} → (X → ℕ) → X → List X → List X
with_inserted number x [] = x ∷ []
with_inserted number x (y ∷ ys) = if nat_lt (number x) (number y) then x ∷ y ∷ ys else y ∷ with_inserted number x ys

-- an object of this number, which has no resource yet
abbrev pub new_object : ℕ → ObjectDef
new_object id = record { id = id; resources = [] }

-- a catalog with one more object
abbrev pub with_object : List ObjectDef → ℕ → List ObjectDef
with_object catalog id = with_inserted (λ o. o.id) (new_object id) catalog

-- an object with one more resource
abbrev pub with_definition : ObjectDef → ResourceDef → ObjectDef
with_definition o definition = record o { resources = with_inserted (λ r. r.id) definition o.resources }

-- a catalog whose object of this number has one more resource
abbrev pub with_resource : List ObjectDef → ℕ → ResourceDef → List ObjectDef
with_resource [] object definition = []
with_resource (o ∷ os) object definition =
    if o.id == object then with_definition o definition ∷ os else o ∷ with_resource os object definition

-- the numbers of vendors' objects (OMA LwM2M 1.1 Core, object identifiers)
abbrev pub is_vendor : ℕ → Bool
is_vendor id = nat_le 10241 id && nat_le id 32768

abbrev pub is_text : ValueKind → Bool
is_text Text = true
is_text Whole = false
is_text Flag = false
is_text Opaque = false
is_text Moment = false
is_text Link = false

-- an executable resource is single, and its kind stands as Text
abbrev pub is_sound : ResourceDef → Bool
is_sound definition = if can_execute definition.ops then (not definition.multiple && is_text definition.kind) else true

-- a vendor object has a number of its own, is not there yet, and is one of 16 objects at most
abbrev pub vendor_fault : List ObjectDef → ℕ → Option CatalogFault
vendor_fault catalog id =
    first_line (
    (not (is_vendor id), IdRange)
    ∷ (is_some (object_of catalog id), Duplicate)
    ∷ (nat_le 16 (length catalog), TooMany)
    ∷ []
    )

-- a resource is sound, is not there yet, and is one of 64 of its object at most
abbrev pub resource_fault_in : ResourceDef → Option ObjectDef → Option CatalogFault
resource_fault_in definition None = Some IdRange
resource_fault_in definition (Some o) =
    first_line (
    (not (is_sound definition), IdRange)
    ∷ (is_some (resource_in o.resources definition.id), Duplicate)
    ∷ (nat_le 64 (length o.resources), TooMany)
    ∷ []
    )

-- the vendor object of this number
abbrev pub vendor_object : List ObjectDef → ℕ → Option ObjectDef
vendor_object catalog id = if is_vendor id then object_of catalog id else None

-- a resource is one of a vendor object that is there
abbrev pub resource_fault : List ObjectDef → ℕ → ResourceDef → Option CatalogFault
resource_fault catalog object definition = resource_fault_in definition (vendor_object catalog object)
