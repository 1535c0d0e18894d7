-- The words of a line of scenario text, by its grammar: spaces, words, and a comment after them. Characters by their
-- codes: 32 is a space, 34 `"`, 35 `#`.
use Rattle.std.specs.Prelude.{◌≡◌, ◌≢◌, ◌↔◌, ◌⊎◌, ℕ, List, [], ◌∷◌, ◌++◌}
use Rattle.std.specs.List.{AllByRecursion}
use Rattle.scenario_words.specs.Words.{words}

abbrev pub AreSpaces : List ℕ → Type 0
AreSpaces bytes = AllByRecursion (λ b. b ≡ 32) bytes

abbrev pub IsWithout : ℕ → List ℕ → Type 0
IsWithout byte bytes = AllByRecursion (λ b. b ≢ byte) bytes

-- nothing, or a `#` and all that stands after it
abbrev pub IsComment : List ℕ → Type 0
IsComment [] = Unit {0}
IsComment (b ∷ bs) = b ≡ 35

-- a word that does not begin with a quote: it begins with no `#`, and no space is in it
abbrev pub IsBare : List ℕ → Type 0
IsBare [] = ⊥
IsBare (b ∷ bs) = (b ≢ 34) × (b ≢ 35) × IsWithout 32 (b ∷ bs)

-- a word that begins with a quote: up to the next one any byte may stand, after it no space
abbrev pub IsInQuotes : List ℕ → Type 0
IsInQuotes word =
    (text : List ℕ) × (behind : List ℕ) × (word ≡ 34 ∷ text ++ 34 ∷ behind) × IsWithout 34 text × IsWithout 32 behind

-- a quote that no other one follows: it makes the rest of the line one word
abbrev pub IsUnclosed : List ℕ → Type 0
IsUnclosed word = (text : List ℕ) × (word ≡ 34 ∷ text) × IsWithout 34 text

-- these are the words of a line, of which each but the last has a space after it
abbrev pub AreWords : List ℕ → List (List ℕ) → Type 0
AreWords line [] = (gap : List ℕ) × (comment : List ℕ) × (line ≡ gap ++ comment) × AreSpaces gap × IsComment comment
AreWords line (w ∷ ws) =
    (gap : List ℕ) × (behind : List ℕ) × (line ≡ gap ++ (w ++ behind)) × AreSpaces gap
    × (((IsBare w ⊎ IsInQuotes w) × (((behind ≡ []) × (ws ≡ []))
    ⊎ ((rest : List ℕ) × (behind ≡ 32 ∷ rest) × AreWords rest ws)))
    ⊎ (IsUnclosed w × (behind ≡ []) × (ws ≡ [])))

abbrev pub LinesHaveWords : Type 0
LinesHaveWords = (line : List ℕ) (ws : List (List ℕ)) → (words line ≡ ws) ↔ AreWords line ws
