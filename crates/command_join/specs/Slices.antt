-- The slices of a scenario that words name.
use Rattle.std.specs.Prelude.{ℕ, ◌≡◌, ◌==◌, List, ◌∷◌, ◌++◌, Option, None, Some, MatchOption}
use Rattle.std.specs.List.{AllZip, before_first}
use Rattle.command_files.specs.Devices.{IsDeviceRange}
use Rattle.command_files.specs.declared.devices.Devices.{Devices}
use Rattle.command_join.specs.declared.slice.Slice.{Slice}

-- `A-B=IMAGE`: there is a `=`; before the first one stands which devices they are, and after it the path of the image
pub record HasRange (word path : List ℕ) (devices : Devices) : Type 0 where
  pub cut : word ≡ before_first (λ b. b == 61) word ++ 61 ∷ path
  pub range : IsDeviceRange (before_first (λ b. b == 61) word) devices

-- every other word is the path of an image
pub record IsPathAlone (word path : List ℕ) : Type 0 where
  pub same : path ≡ word
  pub other : (path : List ℕ) (devices : Devices) → HasRange word path devices → ⊥

-- the word names the slice
pub record IsSlice (word : List ℕ) (slice : Slice) : Type 0 where
  pub word_is : slice.word.now ≡ word
  pub said : MatchOption slice.devices (IsPathAlone word slice.path.now) (HasRange word slice.path.now)

-- the words name the slices, each the one at its place
abbrev pub AreSlices : List (List ℕ) → List Slice → Type 0
AreSlices words slices = AllZip IsSlice words slices

-- the first of its devices; 0 where they are not said
abbrev pub first_in : Option Devices → ℕ
first_in None = 0
first_in (Some devices) = devices.first

abbrev pub first_of : Slice → ℕ
first_of slice = first_in slice.devices

-- the last of its devices; 0 where they are not said
abbrev pub last_in : Option Devices → ℕ
last_in None = 0
last_in (Some devices) = devices.last

abbrev pub last_of : Slice → ℕ
last_of slice = last_in slice.devices
