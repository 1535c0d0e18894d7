-- A store after a Delete (OMA LwM2M 1.1 Core, Delete and access control).
use Rattle.std.specs.Prelude.{◌==◌, Bool, not, ◌&&◌, ◌||◌}
use Rattle.std.specs.FinMap as map
use Rattle.object_defs.specs.Numbers.{access_control_object}
use Rattle.object_defs.specs.declared.path.FullPath.{FullPath}
use Rattle.object_defs.specs.declared.path.InstancePath.{InstancePath}
use Rattle.instance_store.specs.Stored.{Stored, has_instance}
use Rattle.access_control.specs.Rights.{speaks_of}

-- the instance of a value
abbrev pub instance_in : FullPath → InstancePath
instance_in q = record { object = q.object; instance = q.instance }

abbrev pub is_same : InstancePath → InstancePath → Bool
is_same p q = p.object == q.object && p.instance == q.instance

-- an instance of Access Control that speaks of a place
abbrev pub is_control_of : Stored → InstancePath → InstancePath → Bool
is_control_of stored place p =
    p.object == access_control_object
    && (has_instance stored p && speaks_of stored p.instance place.object place.instance)

-- what is removed with an instance: it, and each instance of Access Control that speaks of it
abbrev pub goes_with : Stored → InstancePath → InstancePath → Bool
goes_with stored place p = is_same p place || is_control_of stored place p

-- without these, and the values below them
abbrev pub without_deleted : Stored → InstancePath → Stored
without_deleted stored place = record {
  values = map.retain_keys stored.values (λ q. not (goes_with stored place (instance_in q)));
  instances = map.retain_keys stored.instances (λ p. not (goes_with stored place p));
}
