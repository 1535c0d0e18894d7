-- A catalog: the definitions of objects and of their resources, by ascending number, and what is found in it.
use Rattle.std.specs.Prelude.{ℕ, ◌==◌, List, Option, find, option_and_then}
use Rattle.object_defs.specs.declared.definition.ResourceDef.{ResourceDef}
use Rattle.object_defs.specs.declared.definition.ObjectDef.{ObjectDef}

-- the definition of the resource of this number
abbrev pub resource_in : List ResourceDef → ℕ → Option ResourceDef
resource_in resources id = find (λ r. r.id == id) resources

-- the definition of the object of this number
abbrev pub object_of : List ObjectDef → ℕ → Option ObjectDef
object_of catalog id = find (λ o. o.id == id) catalog

-- the definition of a resource of an object
abbrev pub definition_of : List ObjectDef → ℕ → ℕ → Option ResourceDef
definition_of catalog object id = option_and_then (λ o. resource_in o.resources id) (object_of catalog object)
