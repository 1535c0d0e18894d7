-- The number of a new instance (OMA LwM2M 1.1 Core, Create).
use Rattle.std.specs.Prelude.{◌≡◌, ℕ, suc, zero, ◌<◌, ◌==◌, Bool, true, false, not, ◌||◌, List, [], ◌∷◌, ◌++◌, Option}
use Rattle.std.specs.Prelude.{None, Some, find, if◌then◌else◌}
use Rattle.object_defs.specs.declared.path.InstancePath.{InstancePath}
use Rattle.instance_store.specs.Stored.{Stored, has_instance}

abbrev pub instance_at : ℕ → ℕ → InstancePath
instance_at object number = record { object = object; instance = number }

-- no instance of the object has the number
abbrev pub is_free : Stored → ℕ → ℕ → Bool
is_free stored object number = not (has_instance stored (instance_at object number))

-- the numbers from 0 up to below a limit
unfoldable pub numbers_below : ℕ → List ℕ
numbers_below zero = []
numbers_below (suc n) = numbers_below n ++ n ∷ []

-- the first free number of 0 to 65534, if there is one
abbrev pub smallest_free : Stored → ℕ → Option ℕ
smallest_free stored object = find (is_free stored object) (numbers_below 65535)

-- the number is free, and each lower one is taken
pub record IsSmallestFree (stored : Stored) (object number : ℕ) : Type 0 where
  pub small : number < 65535
  pub free : has_instance stored (instance_at object number) ≡ false
  pub smallest : (k : ℕ) → k < number → has_instance stored (instance_at object k) ≡ true

-- each number of 0 to 65534 is taken
abbrev pub AllAreTaken : Stored → ℕ → Type 0
AllAreTaken stored object = (k : ℕ) → k < 65535 → has_instance stored (instance_at object k) ≡ true

-- the number of a new instance: the one that is named, if it is free and isn't 65535; if none is named, the smallest
-- free one
abbrev pub number_for : Stored → ℕ → Option ℕ → Option ℕ
number_for stored object None = smallest_free stored object
number_for stored object (Some n) = if n == 65535 || has_instance stored (instance_at object n) then None else Some n
