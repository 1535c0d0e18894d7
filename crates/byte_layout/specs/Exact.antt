-- When the four members of a part tell of one format.
use Rattle.std.specs.Prelude.{◌≡◌, ℕ, ◌<◌, ◌≤◌, List, ◌++◌, length, slice_index, Ok, Err}
use Rattle.byte_layout.specs.declared.fault.Break.{Break}
use Rattle.byte_layout.specs.declared.fault.Break.TheVariants.{Magic, Version, Cut, Trailing, BadField, Limit}
use Rattle.byte_layout.specs.Layout.{Layout}

-- a list of bytes
abbrev pub IsBytes : List ℕ → Type 0
IsBytes bytes = (i : ℕ) → slice_index bytes i < 256

-- how many bytes a break says are left
abbrev pub left_of : Break → ℕ
left_of Magic = 0
left_of Version = 0
left_of Cut = 0
left_of Trailing = 0
left_of (BadField left) = left
left_of (Limit left) = left

-- what is read is a valid value, and the bytes are its spelling with what is left after it; the spelling of a valid
-- value is read again, whatever stands after it; a reading breaks off exactly where the bytes do, and so; and no break
-- says that more bytes are left than there are
pub record IsExact {A : Type 0} (p : Layout A) : Type 0 where
  pub taken : (bytes : List ℕ) → IsBytes bytes → (a : A) (rest : List ℕ) → p.read bytes ≡ Ok (a, rest) → p.Good a
      × (bytes ≡ p.spell a ++ rest)
  pub again : (a : A) (rest : List ℕ) → p.Good a → p.read (p.spell a ++ rest) ≡ Ok (a, rest)
  pub broken : (bytes : List ℕ) → IsBytes bytes → (b : Break) → p.read bytes ≡ Err b → p.Breaks bytes b
  pub refused : (bytes : List ℕ) (b : Break) → p.Breaks bytes b → p.read bytes ≡ Err b
  pub within : (bytes : List ℕ) (b : Break) → p.Breaks bytes b → left_of b ≤ length bytes
