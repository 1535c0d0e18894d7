-- Whom an entry of an ACL speaks for (OMA LwM2M 1.1 Core, access control). The resources of object 2 Access Control are
-- named by their numbers: 0 Object ID, 1 Object Instance ID, 2 ACL, 3 Access Control Owner.
use Rattle.std.specs.Prelude.{◌≡◌, ◌≢◌, ◌⊎◌, ℕ, ◌<◌, ◌≤◌, ℤ, pos, true, false, Option, None, Some}
use Rattle.lwm2m_values.specs.declared.value.Value.TheVariants.{Whole}
use Rattle.object_defs.specs.declared.path.FullPath.{FullPath}
use Rattle.instance_store.specs.Stored.{Stored, has_instance, value_at}
use Rattle.access_control.specs.Rights.{creation, letters_of, right_of}
use Rattle.access_control.specs.declared.letters.Rights.{Rights}
use Rattle.laws_tables.specs.Rights.{granted_rights}

-- the path of a resource of instance j of Access Control, or of a part of it
abbrev pub control_path : ℕ → ℕ → Option ℕ → FullPath
control_path j resource part = record { object = 2; instance = j; resource = resource; part = part }

-- an Integer stands there
abbrev pub Says : Stored → ℕ → ℕ → Option ℕ → ℤ → Type 0
Says stored j resource part z = value_at stored (control_path j resource part) ≡ Some (Whole z)

-- instance j is there, and refers to this instance of this object
pub record RefersTo (stored : Stored) (object instance j : ℕ) : Type 0 where
  pub there : has_instance stored (record { object = 2; instance = j }) ≡ true
  pub object_id : Says stored j 0 None (pos object)
  pub instance_id : Says stored j 1 None (pos instance)

-- it is the lowest that does
pub record Decides (stored : Stored) (object instance j : ℕ) : Type 0 where
  pub refers : RefersTo stored object instance j
  pub lowest : (k : ℕ) → k < j → ¬ (RefersTo stored object instance k)

-- its ACL has an entry of this number
abbrev pub HasEntry : Stored → ℕ → ℕ → Type 0
HasEntry stored j server = (z : ℤ) × Says stored j 2 (Some server) z

-- the server is its owner
abbrev pub IsOwner : Stored → ℕ → ℕ → Type 0
IsOwner stored j server = Says stored j 3 None (pos server)

-- it grants a server the letters of the server's own entry; without one, all five to its owner; to any other server the
-- letters of entry 0, and nothing where there is none
pub record GrantsTo (stored : Stored) (j server : ℕ) (rights : Rights) : Type 0 where
  pub own : (z : ℤ) → Says stored j 2 (Some server) z → rights ≡ letters_of z
  pub owner : ¬ (HasEntry stored j server) → IsOwner stored j server → rights ≡ granted_rights true true true true true
  pub others : (z : ℤ) → ¬ (HasEntry stored j server) → ¬ (IsOwner stored j server) → Says stored j 2 (Some 0) z
      → rights ≡ letters_of z
  pub none : ¬ (HasEntry stored j server) → ¬ (IsOwner stored j server) → ¬ (HasEntry stored j 0)
      → rights ≡ granted_rights false false false false false

-- what a server may do with an instance: alone, all; with more accounts, with an instance of Access Control itself, R
-- and W as its owner and else R; with any other instance what the one that decides grants, and nothing where none
-- refers to it
pub record HasRights (stored : Stored) (accounts server object instance : ℕ) (rights : Rights) : Type 0 where
  pub alone : accounts ≤ 1 → rights ≡ granted_rights true true true true true
  pub owned : 2 ≤ accounts → object ≡ 2 → IsOwner stored instance server
      → rights ≡ granted_rights true true false false false
  pub not_owned : 2 ≤ accounts → object ≡ 2 → ¬ (IsOwner stored instance server)
      → rights ≡ granted_rights true false false false false
  pub decided : (j : ℕ) → 2 ≤ accounts → object ≢ 2 → Decides stored object instance j
      → GrantsTo stored j server rights
  pub undecided : 2 ≤ accounts → object ≢ 2 → ((j : ℕ) → ¬ (RefersTo stored object instance j))
      → rights ≡ granted_rights false false false false false

abbrev pub RightsAreGranted : Type 0
RightsAreGranted =
    (stored : Stored) (accounts server object instance : ℕ)
    → HasRights stored accounts server object instance (right_of stored accounts server object instance)

-- creating is a right on an instance 65535, which cannot be there
abbrev pub CreatingIsOnOneNumber : Type 0
CreatingIsOnOneNumber = creation ≡ 65535

-- two stores have the same instances, and the same values but at one path
pub record DiffersAt (old new : Stored) (p : FullPath) : Type 0 where
  pub instances : new.instances ≡ old.instances
  pub others : (q : FullPath) → q ≢ p → value_at new q ≡ value_at old q

-- the entry of a server is of no concern to another server
abbrev pub EntriesSpeakForOne : Type 0
EntriesSpeakForOne =
    (old new : Stored) (accounts server t object instance j : ℕ) → t ≢ 0 → server ≢ t
    → DiffersAt old new (control_path j 2 (Some t))
    → right_of new accounts server object instance ≡ right_of old accounts server object instance

-- and entry 0 is of none to a server that has an entry of its own beside it, or is the owner
abbrev pub DefaultSpeaksForTheRest : Type 0
DefaultSpeaksForTheRest =
    (old new : Stored) (accounts server object instance j : ℕ) → server ≢ 0
    → (HasEntry old j server) ⊎ (IsOwner old j server) → DiffersAt old new (control_path j 2 (Some 0))
    → right_of new accounts server object instance ≡ right_of old accounts server object instance
