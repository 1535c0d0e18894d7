-- How a store keeps its values: objects hold instances, these hold resources, and a resource holds a single value,
-- parts, or both. Clauses of private functions name it, and no promise rests on it.
use Rattle.std.specs.Prelude.{◌≡◌, ℕ, ◌<◌, List, [], ◌∷◌, ◌++◌, map as map_list, Option, None, Some}
use Rattle.std.specs.declared.cmp.Ordering.{Ordering}
use Rattle.std.specs.Ordering.{nat_cmp, ordering_then}
use Rattle.std.specs.Option.{option_cmp}
use Rattle.std.specs.Coded.{Coded, coded×, coded_ℕ, coded_option}
use Rattle.std.specs.FinMap as map
use Rattle.lwm2m_values.specs.declared.value.Value.{Value}
use Rattle.lwm2m_values.specs.Value.{value_code}
use Rattle.object_defs.specs.declared.path.FullPath.{FullPath}
use Rattle.object_defs.specs.declared.path.InstancePath.{InstancePath}
use Rattle.object_defs.specs.declared.path.ResourcePath.{ResourcePath}
use Rattle.object_defs.specs.Path.{instance_cmp}
use Rattle.instance_store.specs.Nested.{joined_map}
use Rattle.instance_store.specs.Stored.{Stored}
use Rattle.instance_store.specs.Table.{TableOf}

-- the single value before the parts by their number
abbrev pub part_cmp : Option ℕ → Option ℕ → Ordering
part_cmp = option_cmp nat_cmp

-- the values of one resource: its single value at none, and its parts
abbrev pub ResourceValues : Type 0
ResourceValues = map.FinMap part_cmp Value

abbrev pub resource_code : Coded ResourceValues
resource_code = map.code (coded_option coded_ℕ) value_code

abbrev pub single_entries : Option Value → List (Option ℕ × Value)
single_entries None = []
single_entries (Some v) = (None, v) ∷ []

abbrev pub part_entries : List (ℕ × Value) → List (Option ℕ × Value)
part_entries es = map_list (λ e. (Some e.0, e.1)) es

abbrev pub resource_values : Option Value → TableOf Value → ResourceValues
resource_values single parts = map.from_entries (single_entries single ++ part_entries (map.entries parts))

-- the values of one instance, by resource and part
abbrev pub at_part : ℕ → Option ℕ → ℕ × Option ℕ
at_part r p = (r, p)

abbrev pub value_cmp : ℕ × Option ℕ → ℕ × Option ℕ → Ordering
value_cmp a b = ordering_then (nat_cmp a.0 b.0) (part_cmp a.1 b.1)

abbrev pub InstanceValues : Type 0
InstanceValues = map.FinMap value_cmp Value

abbrev pub values_code : Coded InstanceValues
values_code = map.code (coded× coded_ℕ (coded_option coded_ℕ)) value_code

abbrev pub instance_values : TableOf ResourceValues → InstanceValues
instance_values resources = joined_map at_part resources

-- no resource is without a value
abbrev pub HoldValues : TableOf ResourceValues → Type 0
HoldValues resources = (n : ℕ) (values : ResourceValues) → map.get resources n ≡ Some values → 0 < map.len values

-- the objects, each with its instances
abbrev pub Objects : Type 0
Objects = TableOf (TableOf InstanceValues)

-- the instance of an object that has this number
abbrev pub place : ℕ → ℕ → InstancePath
place object number = record { object = object; instance = number }

-- the instances of all objects
abbrev pub tree : Objects → map.FinMap instance_cmp InstanceValues
tree objects = joined_map place objects

-- the full path to a value of an instance
abbrev pub path_below : InstancePath → ℕ × Option ℕ → FullPath
path_below i k = record { object = i.object; instance = i.instance; resource = k.0; part = k.1 }

-- the instance that a full path is below
abbrev pub instance_below : FullPath → InstancePath
instance_below p = place p.object p.instance

-- the full path to a value of a resource
abbrev pub path_in : ResourcePath → Option ℕ → FullPath
path_in r p = record { object = r.object; instance = r.instance; resource = r.resource; part = p }

-- the keys of a map, as a set
abbrev pub keys_as_set : {K X : Type 0} {R : K → K → Ordering} → map.FinMap R X → map.FinMap R (Unit {0})
keys_as_set m = map.from_entries (map_list (λ e. (e.0, tt)) (map.entries m))

-- what the objects hold
abbrev pub stored_from : Objects → Stored
stored_from objects = record { values = joined_map path_below (tree objects); instances = keys_as_set (tree objects) }

-- the value of a part with its full path, where there is one
abbrev pub value_at_part : InstancePath → ℕ → ℕ → Option Value → List (FullPath × Value)
value_at_part i r p None = []
value_at_part i r p (Some v) = (path_below i (at_part r (Some p)), v) ∷ []
