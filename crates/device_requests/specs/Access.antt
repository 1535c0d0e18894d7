-- What a server may do to what a path names (OMA LwM2M 1.1 Core, access control).
use Rattle.std.specs.Prelude.{ℕ, ◌==◌, Bool, ◌||◌, length}
use Rattle.std.specs.List.{list_any}
pub use Rattle.access_control.specs.Readable.{reads, shown_instances}
use Rattle.access_control.specs.Rights.{right_of, creation}
use Rattle.access_control.specs.declared.letters.Rights.{Rights}
use Rattle.object_defs.specs.declared.path.Path.{Path}
use Rattle.object_defs.specs.declared.path.Path.TheVariants.{Object, Instance, Resource, Part}
use Rattle.instance_store.specs.Stored.{Stored, instances_of}
use Rattle.device_requests.specs.Client.{Client}

-- the rights at a path, in a device with this many accounts: those on its instance; at an object those by which
-- instances are created
abbrev pub rights_at : Stored → ℕ → ℕ → Path → Rights
rights_at stored accounts server (Object o) = right_of stored accounts server o creation
rights_at stored accounts server (Instance o i) = right_of stored accounts server o i
rights_at stored accounts server (Resource o i r) = right_of stored accounts server o i
rights_at stored accounts server (Part o i r n) = right_of stored accounts server o i

-- an object may be read that has no instance, or one on which the server has R
abbrev pub may_read_at : Stored → ℕ → ℕ → Path → Bool
may_read_at stored accounts server (Object o) =
    length (instances_of stored o) == 0 || list_any (reads stored accounts server o) (instances_of stored o)
may_read_at stored accounts server (Instance o i) = reads stored accounts server o i
may_read_at stored accounts server (Resource o i r) = reads stored accounts server o i
may_read_at stored accounts server (Part o i r n) = reads stored accounts server o i

-- the rights of a server of a client, and whether it may read there
abbrev pub rights_on : Client → ℕ → Path → Rights
rights_on client server path = rights_at client.store (length client.accounts) server path

abbrev pub may_read : Client → ℕ → Path → Bool
may_read client server path = may_read_at client.store (length client.accounts) server path
