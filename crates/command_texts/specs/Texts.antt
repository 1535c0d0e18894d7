-- When a file is the text of a scenario, and why it is not.
use Rattle.std.specs.Prelude.{⊤, ℕ, ◌≡◌, ◌≢◌, ◌⊎◌, List, None, Err}
use Rattle.std.specs.Str.{IsUtf8}
use Rattle.scenario_image.specs.Scenario.{Scenario}
use Rattle.scenario_words.specs.declared.cause.Cause.TheVariants.{Limit}
use Rattle.scenario_asm.specs.Denotes.{Denotes}
use Rattle.scenario_asm.specs.Limits.{PassesAt, asm_fault}
use Rattle.scenario_asm.specs.Text.{scenario_of_text}
use Rattle.scenario_asm.specs.declared.fault.TextFault.{TextFault}
use Rattle.command_files.specs.Fault.{IsReadingFault}
use Rattle.command_files.specs.Loading.{IsHeld}
use Rattle.command_files.specs.declared.fault.Fault.{Fault}
use Rattle.command_files.specs.declared.fault.Fault.TheVariants.{Memory, Read, Text}
use Rattle.command_files.specs.declared.refusal.Why.{Why}
use Rattle.command_texts.specs.Blamed.{IsBlamed, statement_cause}

-- the first line of a text that is refused, and its cause; which limit it passes is told just where it is refused for
-- one
pub record IsFaultOfText (bytes : List ℕ) (fault : TextFault) : Type 0 where
  pub fault_is : scenario_of_text bytes ≡ Err (asm_fault fault)
  pub limit : fault.cause ≡ Limit → PassesAt bytes fault.line fault.limit
  pub no_limit : fault.cause ≢ Limit → fault.limit ≡ None

-- why bytes are not the text of a scenario: they are no UTF-8, or a line is the first that is refused, for its cause
abbrev pub IsNoText : List ℕ → Fault → Type 0
IsNoText bytes Memory = ⊤
IsNoText bytes Read = IsUtf8 bytes → ⊥
IsNoText bytes (Text fault) = IsFaultOfText bytes fault
IsNoText bytes _ = ⊥

-- what is said of bytes that are no text of a scenario: of a line that is refused what is to blame
abbrev pub IsTextWhy : List ℕ → Fault → Why → Type 0
IsTextWhy bytes (Text fault) why = IsBlamed statement_cause bytes fault why
IsTextWhy bytes _ why = ⊤

-- the file at the path is a text that denotes this scenario
abbrev pub IsTextAt : (List ℕ → List ℕ → Type 0) → List ℕ → Scenario → Type 0
IsTextAt holds path s = IsHeld holds path (λ bytes. Denotes bytes s)

-- the file at the path could not be read, or it is not the text of a scenario
abbrev pub IsTextFault : (List ℕ → List ℕ → Type 0) → (List ℕ → Type 0) → List ℕ → Fault → Type 0
IsTextFault holds fails path fault =
    IsReadingFault (fails path) fault ⊎ IsHeld holds path (λ bytes. IsNoText bytes fault)

-- what is said of it: of a line that is refused what is to blame, in the text that the file was
abbrev pub IsTextWhyAt : (List ℕ → List ℕ → Type 0) → List ℕ → Fault → Why → Type 0
IsTextWhyAt holds path (Text fault) why =
    IsHeld holds path (λ bytes. IsFaultOfText bytes fault × IsBlamed statement_cause bytes fault why)
IsTextWhyAt holds path _ why = ⊤
