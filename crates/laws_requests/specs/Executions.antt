-- What an Execute changes (OMA LwM2M 1.1 Core, Execute, objects 3 Device and 5 Firmware Update).
use Rattle.std.specs.Prelude.{◌≡◌, ◌≢◌, ℕ, true, false, List, Option, None, Some, pos}
use Rattle.lwm2m_values.specs.declared.value.Value.TheVariants.{Whole}
use Rattle.object_defs.specs.Path.{part_of, single_of}
use Rattle.object_defs.specs.declared.path.FullPath.{FullPath}
use Rattle.object_defs.specs.declared.path.Path.{Path}
use Rattle.object_defs.specs.declared.path.Path.TheVariants.{Resource}
use Rattle.instance_store.specs.Stored.{Stored, lies_in, value_at}
use Rattle.device_requests.specs.declared.answer.Code.TheVariants.{Changed}
use Rattle.device_requests.specs.Client.{Client}
use Rattle.device_requests.specs.Outcomes.{execute_outcome}
use Rattle.device_requests.specs.Ruling.{code_of}
use Rattle.device_requests.specs.Targets.{is_resource, resource_place}

-- an Execute changes nothing but where it begins an update, /5/x/2, or resets the error codes, /3/x/12
abbrev pub ExecutesKeep : Type 0
ExecutesKeep =
    (client : Client) (server : ℕ) (path : Path) (number : Option ℕ) (payload : List ℕ)
    → is_resource 5 2 path ≡ false → is_resource 3 12 path ≡ false
    → (execute_outcome client server path number payload).client ≡ client

-- Error Code /3/i/11 has one part, 0, that says no error; all else is as it was
pub record HasNoError (old new : Stored) (i : ℕ) : Type 0 where
  pub first : value_at new (part_of (resource_place 3 i 11) 0) ≡ Some (Whole (pos 0))
  pub alone : (q : FullPath) → lies_in (Resource 3 i 11) q ≡ true → q ≢ part_of (resource_place 3 i 11) 0
      → value_at new q ≡ None
  pub others : (q : FullPath) → lies_in (Resource 3 i 11) q ≡ false → value_at new q ≡ value_at old q

-- Reset Error Code resets the error codes
abbrev pub ErrorsAreReset : Type 0
ErrorsAreReset =
    (client : Client) (server i : ℕ) (number : Option ℕ) (payload : List ℕ)
    → code_of (execute_outcome client server (Resource 3 i 12) number payload).answer.ruling ≡ Changed
    → HasNoError client.store (execute_outcome client server (Resource 3 i 12) number payload).client.store i

-- State /5/0/3 goes from Downloaded, 2, to Updating, 3, Update Result /5/0/5 is initial, 0; all else is as it was
pub record BeginsUpdate (old new : Stored) : Type 0 where
  pub was : value_at old (single_of (resource_place 5 0 3)) ≡ Some (Whole (pos 2))
  pub state : value_at new (single_of (resource_place 5 0 3)) ≡ Some (Whole (pos 3))
  pub result : value_at new (single_of (resource_place 5 0 5)) ≡ Some (Whole (pos 0))
  pub others : (q : FullPath) → q ≢ single_of (resource_place 5 0 3) → q ≢ single_of (resource_place 5 0 5)
      → value_at new q ≡ value_at old q

-- Update begins an update
abbrev pub UpdatesBegin : Type 0
UpdatesBegin =
    (client : Client) (server i : ℕ) (number : Option ℕ) (payload : List ℕ)
    → code_of (execute_outcome client server (Resource 5 i 2) number payload).answer.ruling ≡ Changed
    → BeginsUpdate client.store (execute_outcome client server (Resource 5 i 2) number payload).client.store
