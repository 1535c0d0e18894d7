-- What it is for a text to denote a scenario, as its reader believes it.
use Rattle.std.specs.Prelude.{◌≡◌, ℕ, true, List, [], ◌∷◌, Some, Ok}
use Rattle.scenario_image.specs.Scenario.{Scenario}
use Rattle.scenario_words.specs.Words.{lines, words}
use Rattle.scenario_statements.specs.declared.statement.Statement.{Statement}
use Rattle.scenario_statements.specs.Grammar.{statement_of}
use Rattle.scenario_asm.specs.Draft.{Draft, closed_scenario, nothing}
use Rattle.scenario_asm.specs.Effect.{effect}

-- what lines say: a line without words nothing, each other one its statement
pub data AreSaid : List (List ℕ) → List Statement → Type 0 where
  done : AreSaid [] []
  blank : {ls : List (List ℕ)} {ss : List Statement} (line : List ℕ) → words line ≡ [] → AreSaid ls ss
      → AreSaid (line ∷ ls) ss
  stated : {ls : List (List ℕ)} {ss : List Statement} (line : List ℕ) (s : Statement)
      → statement_of (words line) ≡ Ok (Some s) → AreSaid ls ss → AreSaid (line ∷ ls) (s ∷ ss)

-- the effects of statements, one after another, lead from one draft to another
abbrev pub Lead : Draft → List Statement → Draft → Type 0
Lead d [] e = d ≡ e
Lead d (s ∷ ss) e = (next : Draft) × (effect s d ≡ Ok next) × Lead next ss e

-- there are statements, one for each line that has words, whose effects lead from nothing to the scenario
pub record Denotes (text : List ℕ) (s : Scenario) : Type 0 where
  pub statements : List Statement
  pub said : AreSaid (lines text) statements
  pub draft : Draft
  pub lead : Lead nothing statements draft
  pub begun : draft.begun ≡ true
  pub scenario : closed_scenario draft ≡ s
