-- What was taken of an input: the bytes that it had still to give before and after.
use Rattle.std.specs.Prelude.{⊤, ℕ, ◌≡◌, ◌≤◌, ◌<◌, ◌+◌, List, ◌++◌, length, Option, None, Some, IfSome}
use Rattle.std.specs.Io.BufRead.{take_through}

-- this holds of the bytes that an input had still to give before and after, where they are known
abbrev pub WhereKnown : (List ℕ → List ℕ → Type 0) → Option (List ℕ) → Option (List ℕ) → Type 0
WhereKnown holds None after = ⊤
WhereKnown holds (Some bytes) None = ⊥
WhereKnown holds (Some bytes) (Some rest) = holds bytes rest

-- not more bytes were taken than these many
abbrev pub IsWithin : ℕ → List ℕ → List ℕ → Type 0
IsWithin most bytes rest = length bytes ≤ most + length rest

-- nothing was taken but bytes of the next line: none, some from its beginning, or all of it
abbrev pub IsOfLine : List ℕ → List ℕ → Type 0
IsOfLine bytes rest = (taken : List ℕ) × (bytes ≡ taken ++ rest) × (length taken ≤ length (take_through 10 bytes))

-- the next line of an input, with its line feed, has more bytes than these many; where that is known
abbrev pub IsLonger : ℕ → Option (List ℕ) → Type 0
IsLonger most rest = IfSome rest (λ bytes. most < length (take_through 10 bytes))
