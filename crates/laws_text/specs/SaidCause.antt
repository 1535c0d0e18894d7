-- What a line of a text states, and why it is refused, by the relations of its words alone.
use Rattle.std.specs.Prelude.{◌≡◌, ◌↔◌, ◌⊎◌, ℕ, List, ◌∷◌, Some, Ok}
use Rattle.scenario_words.specs.declared.cause.Cause.{Cause}
use Rattle.scenario_words.specs.Words.{words}
use Rattle.scenario_statements.specs.declared.statement.Statement.{Statement}
use Rattle.scenario_statements.specs.Grammar.{statement_of}
use Rattle.scenario_asm.specs.Draft.{Draft}
use Rattle.laws_reading.specs.Line.{AreWords}
use Rattle.laws_reading.specs.Statements.{IsSaidBy}
use Rattle.laws_reading.specs.WrongStatements.{IsRefused}
use Rattle.laws_text.specs.FirstCause.{IsCauseAt, first_cause}

-- the words of a line say this statement
abbrev pub LinesAreSaid : Type 0
LinesAreSaid =
    (line : List ℕ) (s : Statement)
    → (statement_of (words line) ≡ Ok (Some s)) ↔ ((ws : List (List ℕ)) × AreWords line ws × IsSaidBy s ws)

-- a line has words, of which one is wrong, or that say a statement which is refused for the first of the four causes
abbrev pub IsSaidCause : List ℕ → Draft → Cause → Type 0
IsSaidCause line d cause =
    (w : List ℕ) × (ws : List (List ℕ)) × AreWords line (w ∷ ws)
    × (IsRefused w ws cause ⊎ ((s : Statement) × IsSaidBy s (w ∷ ws) × (first_cause s d ≡ Some cause)))

abbrev pub CausesAreSaid : Type 0
CausesAreSaid = (line : List ℕ) (d : Draft) (cause : Cause) → IsCauseAt line d cause ↔ IsSaidCause line d cause
