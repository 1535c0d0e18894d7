-- What the lines of a text say, and which scenarios there are.
use Rattle.std.specs.Prelude.{ℕ, List, [], ◌∷◌, Option, None, Some, Result, Ok}
use Rattle.std.specs.List.{AllByRecursion}
use Rattle.device_template.specs.Built.{IsBuilt}
use Rattle.scenario_image.specs.Scenario.{Scenario, IsValid}
use Rattle.scenario_words.specs.declared.cause.Cause.{Cause}
use Rattle.scenario_words.specs.Words.{words, lines}
use Rattle.scenario_words.specs.Reading.{◌>>=◌}
use Rattle.scenario_statements.specs.declared.statement.Statement.{Statement}
use Rattle.scenario_statements.specs.Grammar.{statement_of}

-- a statement before others, where a line has one
abbrev pub statements_from : Option Statement → List Statement → List Statement
statements_from None ss = ss
statements_from (Some s) ss = s ∷ ss

-- what lines say, in their order
abbrev pub said_in : List (List ℕ) → Result (List Statement) Cause
said_in [] = Ok []
said_in (line ∷ ls) = do
  s ← statement_of (words line)
  ss ← said_in ls
  Ok (statements_from s ss)

-- what a text says, in the order of its lines
abbrev pub said_by : List ℕ → Result (List Statement) Cause
said_by text = said_in (lines text)

-- a scenario is valid, and each of its classes is what accepted additions made
pub record IsScenario (s : Scenario) : Type 0 where
  pub valid : IsValid s
  pub built : AllByRecursion IsBuilt s.classes
