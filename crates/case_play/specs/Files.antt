-- The files that a trial is of: each is made of the bytes that the body of the case gives.
use Rattle.std.specs.Prelude.{ℕ, ◌+◌, ◌/◌, ◌%◌, ◌==◌, nat_le, nat_lt, not, ◌&&◌, List, ◌++◌, length, take, drop}
use Rattle.std.specs.Prelude.{Option, None, Some, slice_index, slice_set, if◌then◌else◌}
use Rattle.case_text.specs.declared.trial.Made.{Made}
use Rattle.case_text.specs.declared.trial.Made.TheVariants.{Itself, With, And, EachFront, EachChange}

-- these bytes from a place on, in place of those that stand there; each of them has to have a place
abbrev pub with_bytes : List ℕ → ℕ → List ℕ → Option (List ℕ)
with_bytes bytes place body =
    if nat_le (place + length bytes) (length body)
    then Some (take place body ++ bytes ++ drop (place + length bytes) body) else None

-- the first n bytes, which are not all
abbrev pub proper_front : ℕ → List ℕ → Option (List ℕ)
proper_front n body = if nat_lt n (length body) then Some (take n body) else None

-- another byte in a place
abbrev pub with_byte : ℕ → ℕ → List ℕ → Option (List ℕ)
with_byte place byte body =
    if nat_lt place (length body) && not (slice_index body place == byte)
    then Some (slice_set body place byte) else None

-- there is one file, number 0
abbrev pub single_file : ℕ → Option (List ℕ) → Option (List ℕ)
single_file n file = if n == 0 then file else None

-- the file of this number, counted from 0, if there is one. In `each change` number 256 P + B is that with byte B in
-- place P; where B stands there already, there is none
abbrev pub file_at : Made → List ℕ → ℕ → Option (List ℕ)
file_at Itself body n = single_file n (Some body)
file_at (With bytes place) body n = single_file n (with_bytes bytes place body)
file_at (And more) body n = single_file n (Some (body ++ more))
file_at EachFront body n = proper_front n body
file_at EachChange body n = with_byte (n / 256) (n % 256) body
