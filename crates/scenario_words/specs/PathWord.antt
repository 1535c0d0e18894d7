-- Paths and links: 47 is `/`, 58 is `:`.
use Rattle.std.specs.Prelude.{ℕ, ◌<◌, List, [], ◌∷◌, ◌++◌, Result, Ok, Err, if◌then◌else◌}
use Rattle.std.specs.List.{list_all}
use Rattle.std.specs.Fmt.{decimal}
use Rattle.object_defs.specs.declared.path.Path.{Path}
use Rattle.object_defs.specs.declared.path.Path.TheVariants.{Object, Instance, Resource, Part}
use Rattle.scenario_words.specs.declared.cause.Cause.{Cause}
use Rattle.scenario_words.specs.declared.cause.Cause.TheVariants.{Token}
use Rattle.scenario_words.specs.Words.{parts}
use Rattle.scenario_words.specs.Reading.{◌>>=◌}
use Rattle.scenario_words.specs.Number.{is_number, number_of}

-- one to four numbers, each from 0 to 65535
abbrev pub path_of_numbers : List (List ℕ) → Result Path Cause
path_of_numbers [] = Err Token
path_of_numbers (a ∷ []) = do
  o ← number_of 0 65535 a
  Ok (Object o)
path_of_numbers (a ∷ b ∷ []) = do
  o ← number_of 0 65535 a
  i ← number_of 0 65535 b
  Ok (Instance o i)
path_of_numbers (a ∷ b ∷ c ∷ []) = do
  o ← number_of 0 65535 a
  i ← number_of 0 65535 b
  r ← number_of 0 65535 c
  Ok (Resource o i r)
path_of_numbers (a ∷ b ∷ c ∷ d ∷ []) = do
  o ← number_of 0 65535 a
  i ← number_of 0 65535 b
  r ← number_of 0 65535 c
  p ← number_of 0 65535 d
  Ok (Part o i r p)
path_of_numbers (a ∷ b ∷ c ∷ d ∷ e ∷ more) = Err Token

-- the words between slashes, of which none may stand before the first; each has to be a number
abbrev pub path_of_parts : List (List ℕ) → Result Path Cause
path_of_parts [] = Err Token
path_of_parts ([] ∷ ws) = if list_all is_number ws then path_of_numbers ws else Err Token
path_of_parts ((b ∷ bs) ∷ ws) = Err Token

-- the path of a word
abbrev pub path_of : List ℕ → Result Path Cause
path_of w = path_of_parts (parts 47 w)

-- a path whose numbers have 16 bits
abbrev pub IsPath : Path → Type 0
IsPath (Object o) = o < 65536
IsPath (Instance o i) = (o < 65536) × (i < 65536)
IsPath (Resource o i r) = (o < 65536) × (i < 65536) × (r < 65536)
IsPath (Part o i r p) = (o < 65536) × (i < 65536) × (r < 65536) × (p < 65536)

-- the two numbers of a link
abbrev pub link_of_parts : List (List ℕ) → Result (ℕ × ℕ) Cause
link_of_parts [] = Err Token
link_of_parts (a ∷ []) = Err Token
link_of_parts (a ∷ b ∷ []) = if list_all is_number (a ∷ b ∷ []) then (do
  o ← number_of 0 65535 a
  i ← number_of 0 65535 b
  Ok (o, i)) else Err Token
link_of_parts (a ∷ b ∷ c ∷ more) = Err Token

abbrev pub link_of : List ℕ → Result (ℕ × ℕ) Cause
link_of w = link_of_parts (parts 58 w)

-- a link as it is written
abbrev pub link_word : ℕ → ℕ → List ℕ
link_word o i = decimal o ++ 58 ∷ decimal i
