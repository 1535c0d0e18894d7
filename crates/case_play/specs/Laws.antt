-- In other words which files are tried.
use Rattle.std.specs.Prelude.{◌≡◌, ◌≢◌, ℕ, ◌<◌, List, length, take, slice_index, slice_set}

-- a file is a proper prefix of the body
abbrev pub IsProperFront : List ℕ → List ℕ → Type 0
IsProperFront body file = (n : ℕ) × (n < length body) × (file ≡ take n body)

-- a file is the body with one byte changed
pub record IsChangeOf (body file : List ℕ) : Type 0 where
  pub place : ℕ
  pub byte : ℕ
  pub within : place < length body
  pub fits : byte < 256
  pub differs : slice_index body place ≢ byte
  pub changed : file ≡ slice_set body place byte
