-- At which line a text is refused, by the texts of scenarios alone.
use Rattle.std.specs.Prelude.{◌≡◌, ◌↔◌, ◌⊎◌, ℕ, ◌+◌, List, [], ◌∷◌, ◌++◌, length, take, Err}
use Rattle.std.specs.List.{AllByRecursion}
use Rattle.scenario_image.specs.Scenario.{Scenario}
use Rattle.scenario_words.specs.Words.{lines, words}
use Rattle.scenario_words.specs.declared.cause.Cause.{Cause}
use Rattle.scenario_words.specs.declared.cause.Cause.TheVariants.{Missing}
use Rattle.scenario_asm.specs.declared.fault.AsmFault.{AsmFault}
use Rattle.scenario_asm.specs.Denotes.{Denotes}
use Rattle.scenario_asm.specs.Text.{scenario_of_text}

-- the text of some scenario begins with these lines
pub record CanBegin (ls : List (List ℕ)) : Type 0 where
  pub text : List ℕ
  pub behind : List (List ℕ)
  pub scenario : Scenario
  pub are : lines text ≡ ls ++ behind
  pub denotes : Denotes text scenario

-- the first line of a text such that no text of a scenario begins with the lines up to it; counted from 1
pub record IsFirstWrong (text : List ℕ) (line : ℕ) : Type 0 where
  pub before : List (List ℕ)
  pub here : List ℕ
  pub behind : List (List ℕ)
  pub cut : lines text ≡ before ++ here ∷ behind
  pub count : line ≡ length before + 1
  pub right : CanBegin before
  pub wrong : CanBegin (before ++ here ∷ []) → ⊥

-- no line has a word
abbrev pub AreBlank : List (List ℕ) → Type 0
AreBlank ls = AllByRecursion (λ line. words line ≡ []) ls

abbrev pub StatesNothing : List ℕ → Type 0
StatesNothing text = AreBlank (lines text)

-- the text is refused at this line, for some cause
abbrev pub IsRefusedAt : List ℕ → ℕ → Type 0
IsRefusedAt text line = (cause : Cause) × (scenario_of_text text ≡ Err (record { line = line; cause = cause }))

-- a text is refused at its first wrong line, and one that states nothing at line 1
abbrev pub RefusedAtFirstWrong : Type 0
RefusedAtFirstWrong =
    (text : List ℕ) (line : ℕ) → IsRefusedAt text line ↔ (IsFirstWrong text line ⊎ (StatesNothing text × (line ≡ 1)))

-- texts that are the same up to the first wrong line of one have the same fault
abbrev pub LaterLinesChangeNothing : Type 0
LaterLinesChangeNothing =
    (text : List ℕ) (other : List ℕ) (fault : AsmFault) → scenario_of_text text ≡ Err fault
    → IsFirstWrong text fault.line
    → take fault.line (lines other) ≡ take fault.line (lines text) → scenario_of_text other ≡ Err fault

-- a text that states nothing lacks something in line 1
abbrev pub NothingIsMissing : Type 0
NothingIsMissing =
    (text : List ℕ) → StatesNothing text → scenario_of_text text ≡ Err (record { line = 1; cause = Missing })

-- a fault that is found at the end of a text alone: where some text of a scenario begins with all of its lines, and it
-- denotes none itself, it states nothing
abbrev pub NothingElseEndsWrong : Type 0
NothingElseEndsWrong =
    (text : List ℕ) → CanBegin (lines text) → ((s : Scenario) → Denotes text s → ⊥) → StatesNothing text
