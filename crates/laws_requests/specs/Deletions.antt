-- What a Delete takes (OMA LwM2M 1.1 Core, Delete, attributes and access control).
use Rattle.std.specs.Prelude.{◌≡◌, ℕ, Bool, false, not, ◌&&◌, Option, None, Some, if◌then◌else◌}
use Rattle.std.specs.FinMap as map
use Rattle.object_defs.specs.declared.path.FullPath.{FullPath}
use Rattle.object_defs.specs.declared.path.InstancePath.{InstancePath}
use Rattle.object_defs.specs.declared.path.Path.TheVariants.{Instance}
use Rattle.instance_store.specs.Stored.{Stored, has_instance, value_at}
use Rattle.notifier.specs.declared.attribute.AttributeKey.{AttributeKey}
use Rattle.device_instances.specs.Deletions.{instance_in, goes_with}
use Rattle.device_requests.specs.declared.answer.Code.TheVariants.{Deleted}
use Rattle.device_requests.specs.Client.{Client}
use Rattle.device_requests.specs.Outcomes.{delete_outcome}
use Rattle.device_requests.specs.Ruling.{code_of}
use Rattle.device_requests.specs.Targets.{place_of}

-- an attribute goes that is set at or below an instance that goes: the deleted one, or one of Access Control that
-- refers to it; what is set at an object stays
abbrev pub goes_at : Stored → InstancePath → ℕ → Option ℕ → Bool
goes_at stored place object None = false
goes_at stored place object (Some n) = goes_with stored place (place_of object n)

-- these instances go, the values in them, and the attributes at and below them; all else is as it was
pub record TakesAway (old new : Client) (place : InstancePath) : Type 0 where
  pub instances : (p : InstancePath)
      → has_instance new.store p ≡ (not (goes_with old.store place p) && has_instance old.store p)
  pub values : (q : FullPath)
      → value_at new.store q ≡ (if goes_with old.store place (instance_in q) then None else value_at old.store q)
  pub attributes : (k : AttributeKey)
      → map.get new.attributes k
      ≡ (if goes_at old.store place k.object k.instance then None else map.get old.attributes k)

-- what a Delete that is done takes
abbrev pub DeletesTake : Type 0
DeletesTake =
    (client : Client) (server o i : ℕ) → code_of (delete_outcome client server (Instance o i)).answer.ruling ≡ Deleted
    → TakesAway client (delete_outcome client server (Instance o i)).client (place_of o i)
