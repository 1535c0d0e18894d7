-- How scenario text is cut: into lines, and a line into words. Bytes by their codes: 10 is LF, 32 a
-- space, 34 `"`, 35 `#`.
use Rattle.std.specs.Prelude.{◌≡◌, ℕ, ◌==◌, List, [], ◌∷◌, ◌++◌, Option, Some, None, if◌then◌else◌}
use Rattle.std.specs.List.{slice_split, onto_first}

-- the parts of bytes between those that are this one
abbrev pub parts : ℕ → List ℕ → List (List ℕ)
parts byte bytes = slice_split (λ b. b == byte) bytes

-- the parts of what stands after such a byte, where there was one
abbrev pub parts_behind : ℕ → Option (List ℕ) → List (List ℕ)
parts_behind byte None = []
parts_behind byte (Some bytes) = parts byte bytes

-- there are two parts or more
pub record HasTwo (ps : List (List ℕ)) : Type 0 where
  pub first : List ℕ
  pub second : List ℕ
  pub others : List (List ℕ)
  pub are : ps ≡ first ∷ second ∷ others

-- the lines of a text, without their LF; after a last LF stands one more, which is empty
abbrev pub lines : List ℕ → List (List ℕ)
lines text = parts 10 text

-- a line with the LF that ends it
abbrev pub ended_line : List ℕ → List ℕ
ended_line line = line ++ 10 ∷ []

-- where a byte stands: between words, in a word, or in quotes
pub data Mode : Type 0 where
  gap : Mode
  plain : Mode
  quoted : Mode

-- the words from here on; in a word and in quotes the first is what is left of the word. A word that
-- begins with `#` begins a comment, which goes to the end of the line
abbrev pub scan : Mode → List ℕ → List (List ℕ)
scan gap [] = []
scan gap (b ∷ bs) =
    if b == 32 then scan gap bs else (if b == 35 then []
    else onto_first b (scan (if b == 34 then quoted else plain) bs))
scan plain [] = [] ∷ []
scan plain (b ∷ bs) = if b == 32 then [] ∷ scan gap bs else onto_first b (scan plain bs)
scan quoted [] = [] ∷ []
scan quoted (b ∷ bs) = onto_first b (scan (if b == 34 then plain else quoted) bs)

-- the words of a line, with their quotes. A quoted word that is not closed, or that goes on after its
-- quotes, is one word; no reader takes it
abbrev pub words : List ℕ → List (List ℕ)
words line = scan gap line

-- a word that can be written: it and the space that ends it are read as this one word
abbrev pub IsWord : List ℕ → Type 0
IsWord word = words (word ++ 32 ∷ []) ≡ word ∷ []

-- bytes that stand in one line
abbrev pub IsLine : List ℕ → Type 0
IsLine bytes = lines bytes ≡ bytes ∷ []
