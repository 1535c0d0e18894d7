-- What a Create adds (OMA LwM2M 1.1 Core, Create and access control).
use Rattle.std.specs.Prelude.{◌≡◌, ◌≢◌, ℕ, true, List, Option, None, Some, pos, length, nat_le, if◌then◌else◌}
use Rattle.lwm2m_values.specs.declared.value.Value.TheVariants.{Whole}
use Rattle.object_defs.specs.Path.{part_of, single_of}
use Rattle.object_defs.specs.declared.path.FullPath.{FullPath}
use Rattle.object_defs.specs.declared.path.InstancePath.{InstancePath}
use Rattle.object_defs.specs.declared.path.Path.TheVariants.{Object, Instance, Resource}
use Rattle.instance_store.specs.Stored.{Stored, has_instance, lies_in, value_at}
use Rattle.lwm2m_payloads.specs.Written.{value_behind}
use Rattle.lwm2m_payloads.specs.declared.given.Mode.TheVariants.{Replace}
use Rattle.device_instances.specs.Deletions.{instance_in}
use Rattle.device_instances.specs.Numbers.{smallest_free}
use Rattle.device_requests.specs.Answer.{Outcome}
use Rattle.device_requests.specs.Client.{Client}
use Rattle.device_requests.specs.declared.create.Newborn.{Newborn}
use Rattle.device_requests.specs.declared.answer.Code.TheVariants.{Created}
use Rattle.device_requests.specs.Create.{newborn}
use Rattle.device_requests.specs.Outcomes.{create_outcome}
use Rattle.device_requests.specs.Ruling.{code_of}
use Rattle.device_requests.specs.Targets.{place_of, resource_place, resources_defined}

-- the number of the new instance of Access Control; with one account there is none
abbrev pub new_control : Client → Option ℕ
new_control client = if nat_le 2 (length client.accounts) then smallest_free client.store 2 else None

-- an instance of Access Control refers to an instance that a server owns; its list has no entry, and nothing else in it
-- is other than before
pub record IsControlOf (old new : Stored) (j : ℕ) (place : InstancePath) (server : ℕ) : Type 0 where
  pub there : has_instance new (place_of 2 j) ≡ true
  pub object : value_at new (single_of (resource_place 2 j 0)) ≡ Some (Whole (pos place.object))
  pub instance : value_at new (single_of (resource_place 2 j 1)) ≡ Some (Whole (pos place.instance))
  pub owner : value_at new (single_of (resource_place 2 j 3)) ≡ Some (Whole (pos server))
  pub no_entry : (n : ℕ) → value_at new (part_of (resource_place 2 j 2) n) ≡ None
  pub others : (q : FullPath) → instance_in q ≡ place_of 2 j → q ≢ single_of (resource_place 2 j 0)
      → q ≢ single_of (resource_place 2 j 1)
      → q ≢ single_of (resource_place 2 j 3)
      → value_at new q ≡ (if lies_in (Resource 2 j 2) q then None else value_at old q)

-- an instance is there or not as before, with the same values
pub record IsSame (old new : Stored) (p : InstancePath) : Type 0 where
  pub there : has_instance new p ≡ has_instance old p
  pub values : (q : FullPath) → instance_in q ≡ p → value_at new q ≡ value_at old q

-- the new instance is there, and in it what the payload gives and is kept, as after a Write that replaces; with two
-- accounts or more there is one of Access Control that refers to it; all else is as it was
pub record IsCreated (client : Client) (server o : ℕ) (payload : List ℕ) (outcome : Outcome) : Type 0 where
  pub born : Newborn
  pub gives : newborn client o payload ≡ Some born
  pub location : outcome.answer.location ≡ Some (place_of o born.number)
  pub there : has_instance outcome.client.store (place_of o born.number) ≡ true
  pub inside : (q : FullPath) → lies_in (Instance o born.number) q ≡ true
      → value_at outcome.client.store q
      ≡ value_behind Replace (resources_defined client.catalog o) born.given q (value_at client.store q)
  pub control : (j : ℕ) → new_control client ≡ Some j
      → IsControlOf client.store outcome.client.store j (place_of o born.number) server
  pub others : (p : InstancePath) → p ≢ place_of o born.number
      → (p.object ≡ 2 → new_control client ≢ Some p.instance) → IsSame client.store outcome.client.store p

-- a Create that is answered Created
abbrev pub CreatesAdd : Type 0
CreatesAdd =
    (client : Client) (server o : ℕ) (number : Option ℕ) (payload : List ℕ)
    → code_of (create_outcome client server (Object o) number payload).answer.ruling ≡ Created
    → IsCreated client server o payload (create_outcome client server (Object o) number payload)
