-- What a store holds, and how a call changes it (OMA LwM2M 1.1 Core: objects, instances, resources and resource
-- instances).
use Rattle.std.specs.Prelude.{ℕ, ◌==◌, ◌&&◌, not, Bool, false, List, map, Option, None, Some, is_some, nat_le, length}
use Rattle.std.specs.Prelude.{refl}
use Rattle.std.specs.List.{filter, filter_map, dedup}
use Rattle.std.specs.Coded.{Coded, code_by, coded×}
use Rattle.std.specs.FinMap as map
use Rattle.std.specs.FinSet as set
use Rattle.lwm2m_values.specs.declared.value.Value.{Value}
use Rattle.lwm2m_values.specs.Value.{value_code}
use Rattle.object_defs.specs.declared.path.Path.{Path}
use Rattle.object_defs.specs.declared.path.Path.TheVariants.{Object, Instance, Resource, Part}
use Rattle.object_defs.specs.declared.path.Path.TheVariants as path
use Rattle.object_defs.specs.declared.path.FullPath.{FullPath}
use Rattle.object_defs.specs.declared.path.InstancePath.{InstancePath}
use Rattle.object_defs.specs.declared.path.ResourcePath.{ResourcePath}
use Rattle.object_defs.specs.Path.{part_of, path_cmp, path_code, instance_cmp, instance_code}

-- the values by their full paths, and the instances that there are
pub record Stored : Type 0 where
  pub values : map.FinMap path_cmp Value
  pub instances : map.FinMap instance_cmp (Unit {0})

abbrev pub stored_code : Coded Stored
stored_code =
    code_by (map.FinMap path_cmp Value × map.FinMap instance_cmp (Unit {0}))
    (coded× (map.code path_code value_code) (set.code instance_code))
    (λ s. (s.values, s.instances)) (λ p. record { values = p.0; instances = p.1 }) (λ _. refl)

-- nothing
abbrev pub empty : Stored
empty = record { values = map.empty; instances = map.empty }

-- the value at a full path
abbrev pub value_at : Stored → FullPath → Option Value
value_at stored place = map.get stored.values place

-- how many values there are
abbrev pub value_count : Stored → ℕ
value_count stored = map.len stored.values

-- whether there is this instance
abbrev pub has_instance : Stored → InstancePath → Bool
has_instance stored place = map.contains_key stored.instances place

-- the numbers of an object's instances, ascending
abbrev pub instances_of : Stored → ℕ → List ℕ
instances_of stored object = map (λ p. p.instance) (filter (λ p. p.object == object) (map.keys stored.instances))

-- whether a part is the part of this number
abbrev pub is_part : ℕ → Option ℕ → Bool
is_part n None = false
is_part n (Some m) = m == n

-- whether a full path is at or below a path
abbrev pub lies_in : Path → FullPath → Bool
lies_in (Object o) q = q.object == o
lies_in (Instance o i) q = q.object == o && q.instance == i
lies_in (Resource o i r) q = q.object == o && q.instance == i && q.resource == r
lies_in (Part o i r p) q = q.object == o && q.instance == i && q.resource == r && is_part p q.part

-- the values at or below a path with their full paths, in the order of these
abbrev pub values_in : Stored → Path → List (FullPath × Value)
values_in stored place = filter (λ e. lies_in place e.0) (map.entries stored.values)

-- the instance of a resource, and a resource and an instance as paths
abbrev pub instance_of : ResourcePath → InstancePath
instance_of r = record { object = r.object; instance = r.instance }

abbrev pub resource_path : ResourcePath → Path
resource_path r = path.Resource r.object r.instance r.resource

abbrev pub instance_path : InstancePath → Path
instance_path i = path.Instance i.object i.instance

-- the numbers of a resource's parts that have a value, ascending
abbrev pub parts_of : Stored → ResourcePath → List ℕ
parts_of stored resource = filter_map (λ e. e.0.part) (values_in stored (resource_path resource))

-- whether a part is new to a resource that has 32
abbrev pub is_full : Stored → ResourcePath → ℕ → Bool
is_full stored resource part =
    not (is_some (value_at stored (part_of resource part))) && nat_le 32 (length (parts_of stored resource))

-- the numbers of an instance's resources that have a value, single or in parts: ascending, each once
abbrev pub resources_of : Stored → InstancePath → List ℕ
resources_of stored place = dedup ◌==◌ (map (λ e. e.0.resource) (values_in stored (instance_path place)))

-- with this value at a full path
abbrev pub with_value : Stored → FullPath → Value → Stored
with_value stored place value = record stored { values = map.insert stored.values place value }

-- without the values at or below a path
abbrev pub without_values : Stored → Path → Stored
without_values stored place = record stored { values = map.retain_keys stored.values (λ q. not (lies_in place q)) }

-- with this instance
abbrev pub with_instance : Stored → InstancePath → Stored
with_instance stored place = record stored { instances = map.insert stored.instances place tt }

-- without this instance and without the values below it
abbrev pub without_instance : Stored → InstancePath → Stored
without_instance stored place =
    record {
      values = (without_values stored (instance_path place)).values;
      instances =
          map.remove stored.instances place;
    }
