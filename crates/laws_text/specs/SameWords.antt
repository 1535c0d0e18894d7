-- What blank lines, spaces and comments change of a text.
use Rattle.std.specs.Prelude.{◌≡◌, ℕ, ◌-◌, List, [], ◌∷◌, map, take, Ok, Err}
use Rattle.scenario_image.specs.Scenario.{Scenario}
use Rattle.scenario_words.specs.Words.{lines, words}
use Rattle.scenario_asm.specs.declared.fault.AsmFault.{AsmFault}
use Rattle.scenario_asm.specs.Text.{scenario_of_text}

-- the words of a line before those of others, where it has some
abbrev pub kept_words : List (List ℕ) → List (List (List ℕ)) → List (List (List ℕ))
kept_words [] rest = rest
kept_words (w ∷ ws) rest = (w ∷ ws) ∷ rest

-- the words of each line that has some
abbrev pub words_of_lines : List (List ℕ) → List (List (List ℕ))
words_of_lines [] = []
words_of_lines (line ∷ ls) = kept_words (words line) (words_of_lines ls)

-- line n of one text and line m of another have the same words, and so have those before them
pub record AreAlike (text : List ℕ) (n : ℕ) (other : List ℕ) (m : ℕ) : Type 0 where
  pub before : words_of_lines (take (n - 1) (lines text)) ≡ words_of_lines (take (m - 1) (lines other))
  pub through : words_of_lines (take n (lines text)) ≡ words_of_lines (take m (lines other))

-- texts whose lines have the same words, each line, are one scenario, or have the same fault
abbrev pub OnlyWordsCount : Type 0
OnlyWordsCount =
    (text : List ℕ) (other : List ℕ) → map words (lines text) ≡ map words (lines other)
    → scenario_of_text text ≡ scenario_of_text other

-- texts that are alike but for lines without words are one scenario
abbrev pub BlankLinesAddNothing : Type 0
BlankLinesAddNothing =
    (text : List ℕ) (other : List ℕ) (s : Scenario) → words_of_lines (lines text) ≡ words_of_lines (lines other)
    → scenario_of_text text ≡ Ok s → scenario_of_text other ≡ Ok s

-- or they have a fault of the same cause, at lines that are alike
abbrev pub BlankLinesMoveFaults : Type 0
BlankLinesMoveFaults =
    (text : List ℕ) (other : List ℕ) (f : AsmFault) → words_of_lines (lines text) ≡ words_of_lines (lines other)
    → scenario_of_text text ≡ Err f
    → (g : AsmFault) × (scenario_of_text other ≡ Err g) × (g.cause ≡ f.cause) × AreAlike text f.line other g.line
