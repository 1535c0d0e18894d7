-- What standard error says of a fault.
use Rattle.std.specs.Prelude.{⊤, ℕ, ◌≡◌, ◌⊎◌, List, [], ◌++◌, Option, None, Some, codes}
use Rattle.std.specs.Io.KnownBytes.{Appends}
use Rattle.std.specs.String.{string_bytes}
use Rattle.command_files.specs.FaultLine.{fault_line, fault_name}
use Rattle.scenario_words.specs.Words.{ended_line}
use Rattle.command_files.specs.World.{StreamFaults, Streams}
use Rattle.scenario_asm.specs.Limits.{limit_words}
use Rattle.scenario_asm.specs.declared.limit.ScenarioLimit.{ScenarioLimit}
use Rattle.command_files.specs.declared.fault.Fault.{Fault}
use Rattle.command_files.specs.declared.fault.Fault.TheVariants.{Text}
use Rattle.command_files.specs.declared.refusal.Why.{Why}
use Rattle.command_files.specs.declared.refusal.Why.TheVariants.{Known, Line, Made, Named, Word}

-- `lwbench: ABOUT: WHY`
abbrev pub about_line : List ℕ → List ℕ → List ℕ
about_line about why = ended_line (codes "lwbench: " ++ about ++ codes ": " ++ why)

-- `lwbench: WHY`
abbrev pub plain_line : List ℕ → List ℕ
plain_line why = ended_line (codes "lwbench: " ++ why)

-- a line about this file or word, if the fault is about one, with any reason
abbrev pub IsAbout : Option (List ℕ) → List ℕ → Type 0
IsAbout None text = (why : List ℕ) × (text ≡ plain_line why)
IsAbout (Some about) text = (why : List ℕ) × (text ≡ about_line about why)

-- the limit that a line of a text passes, at the end of what is said of it
abbrev pub limit_told : Option ScenarioLimit → List ℕ
limit_told None = []
limit_told (Some limit) = codes ": " ++ limit_words limit

abbrev pub limit_passed : Fault → List ℕ
limit_passed (Text fault) = limit_told fault.limit
limit_passed _ = []

-- a fault, and in quotes the word of the refused line that is to blame, or the line; and the limit
abbrev pub word_then : Fault → List ℕ → List ℕ → List ℕ
word_then fault word limit = fault_name fault ++ codes " \"" ++ word ++ codes "\"" ++ limit

abbrev pub with_word : Fault → List ℕ → List ℕ
with_word fault word = word_then fault word (limit_passed fault)

abbrev pub line_then : Fault → List ℕ → List ℕ → List ℕ
line_then fault line limit = fault_name fault ++ codes " in \"" ++ line ++ codes "\"" ++ limit

abbrev pub with_line : Fault → List ℕ → List ℕ
with_line fault line = line_then fault line (limit_passed fault)

-- the words of a fault's name are any; those of a line of a text are its fault
abbrev pub IsNamed : Fault → List ℕ → Type 0
IsNamed (Text fault) reason = reason ≡ fault_name (Text fault) ++ limit_told fault.limit
IsNamed _ reason = ⊤

-- why something was refused for this fault, in words
abbrev pub IsReason : Fault → Why → List ℕ → Type 0
IsReason fault Named reason = IsNamed fault reason
IsReason fault (Known words) reason = reason ≡ words.now
IsReason fault (Made words) reason = reason ≡ string_bytes words
IsReason fault (Word word) reason = reason ≡ with_word fault (string_bytes word)
IsReason fault (Line line) reason = reason ≡ with_line fault (string_bytes line)

-- a line about this file or word, if the fault is about one, with the reason
abbrev pub IsComplaint : Option (List ℕ) → Fault → Why → List ℕ → Type 0
IsComplaint None fault why text = (reason : List ℕ) × IsReason fault why reason × (text ≡ plain_line reason)
IsComplaint (Some about) fault why text =
    (reason : List ℕ) × IsReason fault why reason × (text ≡ about_line about reason)

-- standard error got nothing, or a line about this, which it may not have taken
abbrev pub IsReported : StreamFaults → Streams → Streams → Option (List ℕ) → Type 0
IsReported faults before after about =
    (after.errors ≡ before.errors)
    ⊎ ((text : List ℕ) × IsAbout about text × (Appends before.errors after.errors text ⊎ faults.errors_refuse text))

-- standard output got the fault's line, and standard error at most one line about it; or the first was not taken, and
-- the second got nothing
abbrev pub IsTold : StreamFaults → Streams → Streams → Option (List ℕ) → Fault → Type 0
IsTold faults before after about fault =
    (Appends before.output after.output (fault_line fault) × IsReported faults before after about)
    ⊎ (faults.output_refuses (fault_line fault) × (after.errors ≡ before.errors))
