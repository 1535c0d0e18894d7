-- Which instances a server may read (OMA LwM2M 1.1 Core, access control).
use Rattle.std.specs.Prelude.{ℕ, Bool, List}
use Rattle.std.specs.List.{filter}
use Rattle.instance_store.specs.Stored.{Stored, instances_of}
use Rattle.access_control.specs.Rights.{right_of}

-- the server has R on an instance
abbrev pub reads : Stored → ℕ → ℕ → ℕ → ℕ → Bool
reads stored accounts server o i = (right_of stored accounts server o i).read

-- the instances of an object on which the server has R
abbrev pub shown_instances : Stored → ℕ → ℕ → ℕ → List ℕ
shown_instances stored accounts server o = filter (reads stored accounts server o) (instances_of stored o)
