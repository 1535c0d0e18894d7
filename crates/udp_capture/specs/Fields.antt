-- Headers, field by field.
use Rattle.std.specs.Prelude.{ℕ, List, [], ◌∷◌, ◌++◌}
use Rattle.std.specs.Int.{Width, to_be_bytes}

-- fields one after another, each an unsigned number of its width
abbrev pub Header : Type 0
Header = List (Width × ℕ)

-- their bytes, the high byte of a number first
abbrev pub header_bytes : Header → List ℕ
header_bytes [] = []
header_bytes (field ∷ fields) = to_be_bytes field.0 field.1 ++ header_bytes fields
