-- How breakpoints are added and removed.
use Rattle.std.specs.Prelude.{◌≡◌, ℕ, ◌+◌, ◌<◌, List, Option, None, Some, slice_get, slice_set}
use Rattle.debugger.specs.declared.breaks.Break.{Break}
use Rattle.debugger.specs.Session.{Session, most_breaks, with_breaks}

-- there is a breakpoint of this number
pub record IsTaken (breaks : List (Option Break)) (id : ℕ) : Type 0 where
  pub slot : ℕ
  pub point : Break
  pub number : id ≡ slot + 1
  pub stands : slice_get breaks slot ≡ Some (Some point)

-- each number has a breakpoint
abbrev pub AreAllTaken : List (Option Break) → Type 0
AreAllTaken breaks = (i : ℕ) → i < most_breaks → IsTaken breaks (i + 1)

-- the least number from 1 that had no breakpoint now has this one
pub record IsAdded (old new : Session) (point : Break) (id : ℕ) : Type 0 where
  pub slot : ℕ
  pub number : id ≡ slot + 1
  pub free : slice_get old.breaks slot ≡ Some None
  pub least : (i : ℕ) → i < slot → IsTaken old.breaks (i + 1)
  pub is : new ≡ with_breaks old (slice_set old.breaks slot (Some point))

-- the number has no breakpoint any more
pub record IsRemoved (old new : Session) (id : ℕ) : Type 0 where
  pub slot : ℕ
  pub number : id ≡ slot + 1
  pub is : new ≡ with_breaks old (slice_set old.breaks slot None)
