-- Rule 4: why the segments of a Uri-Path are not a path.
use Rattle.std.specs.Prelude.{◌≡◌, ℕ, ◌+◌, Bool, not, List, length, find, is_some, position, None, Some}
use Rattle.object_defs.specs.Decimal.{decimal_number}
use Rattle.request_reasons.specs.declared.uri_path.PathFault.{PathFault}
use Rattle.request_reasons.specs.declared.uri_path.PathFault.TheVariants.{Segment, Count}

-- a segment is not a number from 0 to 65535 in decimal
abbrev pub is_no_number : List ℕ → Bool
is_no_number segment = not (is_some (decimal_number segment))

-- the first segment that is not a number is this one, at this place, counted from 1; or each is one, and so many are
-- there
abbrev pub IsNoPath : List (List ℕ) → PathFault → Type 0
IsNoPath segments (Segment place bytes) =
    (k : ℕ) × (position is_no_number segments ≡ Some k) × (place ≡ k + 1)
    × (find is_no_number segments ≡ Some bytes)
IsNoPath segments (Count count) = (position is_no_number segments ≡ None) × (length segments ≡ count)
