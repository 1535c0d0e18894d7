-- What follows for instances, rights and values.
use Rattle.std.specs.Prelude.{◌≡◌, ◌≢◌, ℕ, ◌≤◌, true, false, ◌⊎◌, List, None, Some}
use Rattle.object_defs.specs.declared.definition.ResourceDef.{ResourceDef}
use Rattle.object_defs.specs.Numbers.{access_control_object}
use Rattle.object_defs.specs.declared.path.FullPath.{FullPath}
use Rattle.object_defs.specs.declared.path.InstancePath.{InstancePath}
use Rattle.instance_store.specs.Stored.{Stored, has_instance, value_at}
use Rattle.access_control.specs.Rights.{speaks_of, control_of, right_of, every_right}
use Rattle.lwm2m_payloads.specs.declared.given.Assignment.{Assignment}
use Rattle.device_instances.specs.Numbers.{instance_at, smallest_free}
use Rattle.device_instances.specs.Creations.{with_created, is_full}
use Rattle.device_instances.specs.Deletions.{instance_in, without_deleted}

-- after a Create there is the instance
abbrev pub CreatedIsThere : Type 0
CreatedIsThere =
    (stored : Stored) (accounts server : ℕ) (resources : List ResourceDef) (place : InstancePath)
    (given : List Assignment)
    → has_instance (with_created stored accounts server resources place given) place ≡ true

-- each other instance that was there is there as before
abbrev pub OthersStay : Type 0
OthersStay =
    (stored : Stored) (accounts server : ℕ) (resources : List ResourceDef) (place : InstancePath)
    (given : List Assignment) (p : InstancePath)
    → has_instance stored p ≡ true → p ≢ place
    → (has_instance (with_created stored accounts server resources place given) p ≡ true)
    × ((q : FullPath) → instance_in q ≡ p
    → value_at (with_created stored accounts server resources place given) q ≡ value_at stored q)

-- no third one is new: each that is there was there, or is the created one, or the one of Access Control
abbrev pub NoneElseIsNew : Type 0
NoneElseIsNew =
    (stored : Stored) (accounts server : ℕ) (resources : List ResourceDef) (place : InstancePath)
    (given : List Assignment) (p : InstancePath)
    → has_instance (with_created stored accounts server resources place given) p ≡ true
    → (has_instance stored p ≡ true) ⊎ ((p ≡ place) ⊎ ((p.object ≡ access_control_object)
    × (smallest_free stored access_control_object ≡ Some p.instance)))

-- with two accounts or more the creator has every right on it, where no older instance of Access Control speaks of it
abbrev pub CreatorHasEveryRight : Type 0
CreatorHasEveryRight =
    (stored : Stored) (accounts server : ℕ) (resources : List ResourceDef) (place : InstancePath)
    (given : List Assignment)
    → 2 ≤ accounts → place.object ≢ access_control_object → is_full stored access_control_object ≡ false
    → control_of stored place.object place.instance ≡ None
    → right_of (with_created stored accounts server resources place given) accounts server place.object place.instance
    ≡ every_right

-- after a Delete no value lies below the instance
abbrev pub NoValueIsLeft : Type 0
NoValueIsLeft =
    (stored : Stored) (place : InstancePath) (q : FullPath) → instance_in q ≡ place
    → value_at (without_deleted stored place) q ≡ None

-- and no instance of Access Control speaks of it
abbrev pub NoControlIsLeft : Type 0
NoControlIsLeft =
    (stored : Stored) (place : InstancePath) (j : ℕ)
    → has_instance (without_deleted stored place) (instance_at access_control_object j) ≡ true
    → speaks_of (without_deleted stored place) j place.object place.instance ≡ false
