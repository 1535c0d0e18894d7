-- The order in which slices are joined, and why there is none.
use Rattle.std.specs.Prelude.{ℕ, ◌≡◌, ◌+◌, ◌<◌, ◌≤◌, ◌⊎◌, ⊤, true, List, ◌∷◌, length, Option, None, Some, is_some}
use Rattle.std.specs.Prelude.{All}
use Rattle.std.specs.List.{AllAdjacentBelow, Contains}
use Rattle.std.specs.List.Sorted.{IsPermutation}
use Rattle.command_join.specs.Slices.{first_of, last_of}
use Rattle.command_files.specs.declared.fault.Fault.{Fault}
use Rattle.command_files.specs.declared.fault.Fault.TheVariants.{Memory, Slices}
use Rattle.command_join.specs.declared.slice.Slice.{Slice}

-- it says which devices it has
abbrev pub SaysDevices : Slice → Type 0
SaysDevices slice = is_some slice.devices ≡ true

-- it does not
abbrev pub SaysNoDevices : Slice → Type 0
SaysNoDevices slice = slice.devices ≡ None

-- the device is one of those that the slice says
pub record HasDevice (slice : Slice) (device : ℕ) : Type 0 where
  pub from : first_of slice ≤ device
  pub to : device ≤ last_of slice

-- none says which devices it has: the order is that of the words
pub record AreAsNamed (named order : List Slice) : Type 0 where
  pub unsaid : All SaysNoDevices named
  pub same : order ≡ named

-- each begins with the device that follows the last one of the slice before it
abbrev pub AreConsecutive : List Slice → Type 0
AreConsecutive slices = AllAdjacentBelow (λ before slice. first_of slice ≡ last_of before + 1) slices (length slices)

-- all say which devices they have: the order is that of the devices, of which none is twice and none is missing
pub record AreByDevices (named order : List Slice) : Type 0 where
  pub said : All SaysDevices named
  pub same : IsPermutation named order
  pub next : AreConsecutive order

-- the order of the slices that are named so
abbrev pub IsOrder : List Slice → List Slice → Type 0
IsOrder named order = AreAsNamed named order ⊎ AreByDevices named order

-- ---- why there is none

-- the slice does not say which devices it has, though one does
pub record IsWithoutDevices (named : List Slice) (slice : Slice) : Type 0 where
  pub there : Contains named slice
  pub unsaid : SaysNoDevices slice
  pub other : Slice
  pub stands : Contains named other
  pub said : SaysDevices other

-- the slice and another one have the same device
pub record IsOverlap (named : List Slice) (slice : Slice) : Type 0 where
  pub said : All SaysDevices named
  pub other : Slice
  pub others : List Slice
  pub two : IsPermutation named (other ∷ slice ∷ others)
  pub device : ℕ
  pub here : HasDevice slice device
  pub twice : HasDevice other device

-- no slice has the device before the first one of this slice, though one has a lower one
pub record IsAfterGap (named : List Slice) (slice : Slice) : Type 0 where
  pub said : All SaysDevices named
  pub there : Contains named slice
  pub device : ℕ
  pub next : first_of slice ≡ device + 1
  pub none : All (λ s. HasDevice s device → ⊥) named
  pub lower : Slice
  pub stands : Contains named lower
  pub below : last_of lower < device

-- the slice is the one to blame
abbrev pub IsMisfit : List Slice → Slice → Type 0
IsMisfit named slice = IsWithoutDevices named slice ⊎ (IsOverlap named slice ⊎ IsAfterGap named slice)

-- the word of a slice is to blame
pub record IsMisfitWord (named : List Slice) (about : Option (List ℕ)) : Type 0 where
  pub slice : Slice
  pub misfit : IsMisfit named slice
  pub word : about ≡ Some slice.word.now

-- no memory was left, or one of the slices does not fit the others
abbrev pub IsOrderFault : List Slice → Option (List ℕ) → Fault → Type 0
IsOrderFault named about Memory = ⊤
IsOrderFault named about Slices = IsMisfitWord named about
IsOrderFault named about _ = ⊥
