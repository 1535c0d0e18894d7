-- Which paths exist (OMA LwM2M 1.1 Core; which resources count as existing is this profile's).
use Rattle.std.specs.Prelude.{◌≡◌, ◌↔◌, ◌⊎◌, ℕ, true, false, List, Option, None, Some}
use Rattle.lwm2m_values.specs.declared.value.Value.{Value}
use Rattle.object_defs.specs.Catalog.{definition_of}
use Rattle.object_defs.specs.Path.{part_of, single_of}
use Rattle.object_defs.specs.declared.definition.ObjectDef.{ObjectDef}
use Rattle.object_defs.specs.declared.definition.Ops.TheVariants.{W, E}
use Rattle.object_defs.specs.declared.definition.ResourceDef.{ResourceDef}
use Rattle.object_defs.specs.declared.path.Path.{Path}
use Rattle.object_defs.specs.declared.path.Path.TheVariants.{Object, Instance, Resource, Part}
use Rattle.object_defs.specs.declared.path.ResourcePath.{ResourcePath}
use Rattle.instance_store.specs.Stored.{Stored, has_instance, value_at}
use Rattle.lwm2m_payloads.specs.declared.given.Mode.{Mode}
use Rattle.device_requests.specs.Client.{Client}
use Rattle.device_requests.specs.Laws.{IsAmong}
use Rattle.device_requests.specs.Refusals.{lacks_target, to_write}
use Rattle.device_requests.specs.Targets.{exists, place_of, resource_place}

-- the catalog has a definition of the object
abbrev pub IsKnown : List ObjectDef → ℕ → Type 0
IsKnown catalog o = (d : ObjectDef) × IsAmong d catalog × (d.id ≡ o)

-- a single resource is held with its value, a multiple one with a part or more
pub data IsHeld (stored : Stored) (p : ResourcePath) (d : ResourceDef) : Type 0 where
  by_value : (v : Value) → d.multiple ≡ false → value_at stored (single_of p) ≡ Some v → IsHeld stored p d
  by_part : (n : ℕ) (v : Value) → d.multiple ≡ true → value_at stored (part_of p n) ≡ Some v → IsHeld stored p d

-- an object exists where it is known, an instance where it is also there; a resource of an instance that is there,
-- where it is defined and executable, write-only or held; a part of one, where the resource is multiple and holds it
pub data Exists (catalog : List ObjectDef) (stored : Stored) : Path → Type 0 where
  an_object : (o : ℕ) → IsKnown catalog o → Exists catalog stored (Object o)
  an_instance : (o i : ℕ) → IsKnown catalog o → has_instance stored (place_of o i) ≡ true
      → Exists catalog stored (Instance o i)
  a_resource : (o i r : ℕ) (d : ResourceDef) → has_instance stored (place_of o i) ≡ true
      → definition_of catalog o r ≡ Some d
      → (d.ops ≡ E) ⊎ ((d.ops ≡ W) ⊎ IsHeld stored (resource_place o i r) d) → Exists catalog stored (Resource o i r)
  a_part : (o i r n : ℕ) (d : ResourceDef) (v : Value) → has_instance stored (place_of o i) ≡ true
      → definition_of catalog o r ≡ Some d → d.multiple ≡ true
      → value_at stored (part_of (resource_place o i r) n) ≡ Some v → Exists catalog stored (Part o i r n)

abbrev pub WhatExists : Type 0
WhatExists =
    (catalog : List ObjectDef) (stored : Stored) (path : Path)
    → (exists catalog stored path ≡ true) ↔ Exists catalog stored path

-- what a Write may go to: an instance that exists, a resource that is defined, held or not, and any part of a multiple
-- one, in an instance that is there
pub data IsToWrite (catalog : List ObjectDef) (stored : Stored) : Path → Type 0 where
  write_instance : (o i : ℕ) → IsKnown catalog o → has_instance stored (place_of o i) ≡ true
      → IsToWrite catalog stored (Instance o i)
  write_resource : (o i r : ℕ) (d : ResourceDef) → has_instance stored (place_of o i) ≡ true
      → definition_of catalog o r ≡ Some d → IsToWrite catalog stored (Resource o i r)
  write_part : (o i r n : ℕ) (d : ResourceDef) → has_instance stored (place_of o i) ≡ true
      → definition_of catalog o r ≡ Some d → d.multiple ≡ true → IsToWrite catalog stored (Part o i r n)

abbrev pub WhatIsToWrite : Type 0
WhatIsToWrite =
    (client : Client) (path : Path) (mode : Mode) (format : Option ℕ) (payload : List ℕ)
    → (lacks_target client path (to_write mode format payload) ≡ false)
    ↔ IsToWrite client.catalog client.store path

-- the path in which a path lies
abbrev pub path_around : Path → Option Path
path_around (Object o) = None
path_around (Instance o i) = Some (Object o)
path_around (Resource o i r) = Some (Instance o i)
path_around (Part o i r n) = Some (Resource o i r)

-- what exists lies in what exists
abbrev pub ExistsWithin : Type 0
ExistsWithin =
    (catalog : List ObjectDef) (stored : Stored) (path outer : Path) → exists catalog stored path ≡ true
    → path_around path ≡ Some outer → exists catalog stored outer ≡ true
