-- A trace as JSON Lines: a line for each object.
use Rattle.std.specs.Prelude.{◌≡◌, ℕ, List, [], ◌∷◌, ◌++◌, map}
use Rattle.std.specs.List.{AllByRecursion, flat_map}
use Rattle.serde_json.specs.Data.{Data}
use Rattle.serde_json.specs.Written.{compact_text}
use Rattle.scenario_words.specs.Words.{lines}
use Rattle.trace_json.specs.Writing.{IsReadAgain, json_line}

-- the lines of values, one after another
abbrev pub json_lines : List Data → List ℕ
json_lines values = flat_map json_line values

-- the text has a line for each of these values, in their order, which is read as the value, and no other line
pub record AreLinesOf (values : List Data) (text : List ℕ) : Type 0 where
  pub text_is : text ≡ json_lines values
  pub lines_are : lines text ≡ map compact_text values ++ [] ∷ []
  pub read_again : AllByRecursion IsReadAgain values
