-- A line in which words may be in pieces. Bytes by their codes: 32 is a space, 42 `*`, 43 `+`.
use Rattle.std.specs.Prelude.{ℕ, ◌==◌, Bool, List, [], ◌∷◌, ◌++◌, Result, Ok, Err, if◌then◌else◌}
use Rattle.std.specs.List.{list_any, flat_map}
use Rattle.scenario_words.specs.declared.cause.Cause.{Cause}
use Rattle.scenario_words.specs.Words.{parts}
use Rattle.case_text.specs.Digits.{pieces_of}

abbrev pub has_star : List ℕ → Bool
has_star w = list_any (λ b. b == 42) w

-- what a word was read as, and where it was not, the word
abbrev pub or_word : List ℕ → Result (List ℕ) Cause → List ℕ
or_word w (Ok hex) = hex
or_word w (Err e) = w

-- a word with a `*` that is in pieces stands for its hex, and any other for itself
abbrev pub expanded_word : List ℕ → List ℕ
expanded_word w = if has_star w then or_word w (pieces_of (parts 43 w)) else w

-- the line of these words, with a space after each
abbrev pub expanded_line : List (List ℕ) → List ℕ
expanded_line ws = flat_map (λ w. expanded_word w ++ 32 ∷ []) ws
