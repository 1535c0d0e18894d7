-- What follows from the cases, in the words of the standard.
use Rattle.std.specs.Prelude.{◌≡◌, ◌≢◌, ◌↔◌, ℕ, ◌<◌, ◌≤◌, ℤ, Bool, true, false, Some, None}
use Rattle.object_defs.specs.Numbers.{access_control_object}
use Rattle.instance_store.specs.Stored.{Stored, has_instance}
use Rattle.access_control.specs.Rights.{speaks_of, right_of, control_of, entry_of, letters_of, every_right, no_right}

-- a server that is alone has every right
abbrev pub OneAccountHasAll : Type 0
OneAccountHasAll =
    (stored : Stored) (accounts server object instance : ℕ) → accounts ≤ 1
    → right_of stored accounts server object instance ≡ every_right

-- with more accounts nobody may create or delete an instance of Access Control
abbrev pub NobodyMakesControls : Type 0
NobodyMakesControls =
    (stored : Stored) (accounts server instance : ℕ) → 2 ≤ accounts
    → ((right_of stored accounts server access_control_object instance).create ≡ false)
    × ((right_of stored accounts server access_control_object instance).delete ≡ false)

-- with more accounts a server's own entry decides, whoever the owner is
abbrev pub OwnEntryDecides : Type 0
OwnEntryDecides =
    (stored : Stored) (accounts server object instance j : ℕ) (number : ℤ) → 2 ≤ accounts
    → object ≢ access_control_object → control_of stored object instance ≡ Some j
    → entry_of stored j server ≡ Some number
    → right_of stored accounts server object instance ≡ letters_of number

-- with more accounts an instance that no instance of Access Control speaks of is closed to all
abbrev pub UncontrolledIsClosed : Type 0
UncontrolledIsClosed =
    (stored : Stored) (accounts server object instance : ℕ) → 2 ≤ accounts → object ≢ access_control_object
    → control_of stored object instance ≡ None → right_of stored accounts server object instance ≡ no_right

-- an instance of Access Control that is there
abbrev pub is_there : Stored → ℕ → Bool
is_there stored j = has_instance stored (record { object = access_control_object; instance = j })

-- the lowest instance of Access Control that speaks of an object and an instance
pub record IsLowest (stored : Stored) (object instance j : ℕ) : Type 0 where
  pub there : is_there stored j ≡ true
  pub speaks : speaks_of stored j object instance ≡ true
  pub lowest : (k : ℕ) → k < j → is_there stored k ≡ true → speaks_of stored k object instance ≡ false

-- it decides, whatever else speaks of them
abbrev pub LowestDecides : Type 0
LowestDecides = (stored : Stored) (object instance j : ℕ) → (control_of stored object instance ≡ Some j)
    ↔ IsLowest stored object instance j

-- none decides where none speaks of them
abbrev pub NoneDecides : Type 0
NoneDecides =
    (stored : Stored) (object instance : ℕ)
    → (control_of stored object instance ≡ None)
    ↔ ((k : ℕ) → is_there stored k ≡ true → speaks_of stored k object instance ≡ false)
