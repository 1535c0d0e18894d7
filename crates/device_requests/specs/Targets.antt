-- The targets of operations: how the catalog defines a path, and which paths exist.
use Rattle.std.specs.Prelude.{ℕ, ◌==◌, Bool, false, ◌&&◌, List, [], Option, None, Some, is_some}
use Rattle.object_defs.specs.Catalog.{object_of, definition_of}
use Rattle.object_defs.specs.Operations.{can_read}
use Rattle.object_defs.specs.Path.{part_of}
use Rattle.object_defs.specs.declared.definition.ObjectDef.{ObjectDef}
use Rattle.object_defs.specs.declared.definition.ResourceDef.{ResourceDef}
use Rattle.object_defs.specs.declared.path.InstancePath.{InstancePath}
use Rattle.object_defs.specs.declared.path.ResourcePath.{ResourcePath}
use Rattle.object_defs.specs.declared.path.Path.{Path}
use Rattle.object_defs.specs.declared.path.Path.TheVariants.{Object, Instance, Resource, Part}
use Rattle.instance_store.specs.Existence.{has_resource}
use Rattle.instance_store.specs.Stored.{Stored, value_at, has_instance}

abbrev pub resources_as : Option ObjectDef → List ResourceDef
resources_as None = []
resources_as (Some o) = o.resources

-- the definitions of an object's resources; none where the object is not known
abbrev pub resources_defined : List ObjectDef → ℕ → List ResourceDef
resources_defined catalog object = resources_as (object_of catalog object)

-- the definition of the resource that a path names
abbrev pub definition_at : List ObjectDef → Path → Option ResourceDef
definition_at catalog (Object _) = None
definition_at catalog (Instance _ _) = None
definition_at catalog (Resource o i r) = definition_of catalog o r
definition_at catalog (Part o i r n) = definition_of catalog o r

abbrev pub place_of : ℕ → ℕ → InstancePath
place_of o i = record { object = o; instance = i }

abbrev pub resource_place : ℕ → ℕ → ℕ → ResourcePath
resource_place o i r = record { object = o; instance = i; resource = r }

abbrev pub is_multiple : Option ResourceDef → Bool
is_multiple None = false
is_multiple (Some d) = d.multiple

abbrev pub is_readable : Option ResourceDef → Bool
is_readable None = false
is_readable (Some d) = can_read d.ops

-- an object exists where the catalog has it, an instance where the store has it too, a resource by its definition,
-- a part where its resource is multiple and holds it
abbrev pub exists : List ObjectDef → Stored → Path → Bool
exists catalog stored (Object o) = is_some (object_of catalog o)
exists catalog stored (Instance o i) = is_some (object_of catalog o) && has_instance stored (place_of o i)
exists catalog stored (Resource o i r) = has_resource stored (resource_place o i r) (definition_of catalog o r)
exists catalog stored (Part o i r n) =
    has_instance stored (place_of o i)
    && (is_multiple (definition_of catalog o r) && is_some (value_at stored (part_of (resource_place o i r) n)))

-- a resource of an object
abbrev pub is_resource : ℕ → ℕ → Path → Bool
is_resource object resource (Object o) = false
is_resource object resource (Instance o i) = false
is_resource object resource (Resource o i r) = o == object && r == resource
is_resource object resource (Part o i r n) = false
