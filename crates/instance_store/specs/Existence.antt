-- Which resources exist in a store, by their definitions (OMA LwM2M 1.1 Core; which of them count as existing is this
-- profile's).
use Rattle.std.specs.Prelude.{ℕ, nat_lt, Bool, true, false, not, ◌&&◌, ◌||◌, length, Option, None, Some, is_some}
use Rattle.object_defs.specs.Operations.{can_read}
use Rattle.object_defs.specs.Path.{single_of}
use Rattle.object_defs.specs.declared.definition.ResourceDef.{ResourceDef}
use Rattle.object_defs.specs.declared.path.ResourcePath.{ResourcePath}
use Rattle.instance_store.specs.Stored.{Stored, value_at, has_instance, instance_of, parts_of}

-- a multiple resource is held with at least one part, another with its single value
abbrev pub is_held : Stored → ResourcePath → Bool → Bool
is_held stored p true = nat_lt 0 (length (parts_of stored p))
is_held stored p false = is_some (value_at stored (single_of p))

-- a resource that is defined exists where it is executable, write-only or held
abbrev pub exists_as : Stored → ResourcePath → Option ResourceDef → Bool
exists_as stored p None = false
exists_as stored p (Some d) = not (can_read d.ops) || is_held stored p d.multiple

-- and its instance exists
abbrev pub has_resource : Stored → ResourcePath → Option ResourceDef → Bool
has_resource stored p definition = has_instance stored (instance_of p) && exists_as stored p definition
