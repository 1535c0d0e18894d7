-- What an answer states of what is found in a file.
use Rattle.std.specs.Prelude.{◌≡◌, ℕ, Bool, true, false, List, [], ◌∷◌, ◌++◌, length}
use Rattle.std.specs.List.{sum_by}
use Rattle.scenario_image.specs.Scenario.{Scenario}
use Rattle.scenario_words.specs.Words.{ended_line}
use Rattle.scenario_asm.specs.Canonical.{text_of_scenario}
use Rattle.trace_file.specs.declared.entry.Entry.{Entry}
use Rattle.case_text.specs.declared.file_answer.FileAnswer.{FileAnswer}
use Rattle.case_text.specs.declared.file_case.FileKind.{FileKind}
use Rattle.case_text.specs.declared.file_stated.FileStated.{FileStated}
use Rattle.case_text.specs.declared.file_stated.FileStated.TheVariants as states
use Rattle.case_play.specs.Ends.{IsImageOf, IsTraceOf}
use Rattle.case_play.specs.declared.finding.Finding.{Finding}
use Rattle.case_play.specs.declared.finding.Finding.TheVariants as found
use Rattle.case_play.specs.EntryWords.{entries_in_words}
use Rattle.case_play.specs.Written.{IsKept, AreKept}

-- ---- the lines of a text

-- it is a line of what the answer above states
abbrev pub is_line : FileStated → Bool
is_line (states.TextLine text) = true
is_line stated = false

-- a line before others; another answer ends them
abbrev pub line_before : FileStated → List ℕ → List ℕ
line_before (states.TextLine text) others = ended_line text ++ others
line_before stated others = []

-- the lines that stand directly below an answer, by the answers below it
abbrev pub lines_below : List FileAnswer → List ℕ
lines_below [] = []
lines_below (answer ∷ others) = line_before answer.stated (lines_below others)

-- ---- what is stated

-- how many steps all devices have together
abbrev pub count_steps : Scenario → ℕ
count_steps s = sum_by (λ r. length r.steps) s.rows

-- of a scenario that was found in a file: it has that many classes, devices and steps; what is written of it is just
-- this file; its image in the version that is written, or its canonical text, is this
abbrev pub StatesScenario : FileKind → List ℕ → FileStated → List FileAnswer → Scenario → Type 0
StatesScenario kind file (states.Ok classes devices steps) below s =
    (length s.classes ≡ classes) × (length s.rows ≡ devices) × (count_steps s ≡ steps)
StatesScenario kind file states.FaultOrOk below s = IsKept kind file s
StatesScenario kind file (states.Image digits) below s = IsImageOf s digits
StatesScenario kind file states.Text below s = text_of_scenario s ≡ lines_below below
StatesScenario kind file stated below s = ⊥

-- of entries that were found in a file: there are that many; what is written of them is just this file; their trace
-- file, or the entries in words, are this
abbrev pub StatesEntries : List ℕ → FileStated → List FileAnswer → List Entry → Type 0
StatesEntries file (states.OkEntries count) below es = length es ≡ count
StatesEntries file states.FaultOrOk below es = AreKept file es
StatesEntries file (states.Trace digits) below es = IsTraceOf es digits
StatesEntries file states.Entries below es = entries_in_words es ≡ lines_below below
StatesEntries file stated below es = ⊥

-- of a fault: its words are these
abbrev pub StatesFault : FileStated → List ℕ → Type 0
StatesFault (states.Fault words) found = found ≡ words
StatesFault states.FaultOrOk found = Unit {0}
StatesFault stated found = ⊥

-- an answer, above these others, states what is found in a file
abbrev pub StatesFinding : FileKind → List ℕ → FileStated → List FileAnswer → Finding → Type 0
StatesFinding kind file stated below (found.Scenario s) = StatesScenario kind file stated below s
StatesFinding kind file stated below (found.Entries es) = StatesEntries file stated below es
StatesFinding kind file stated below (found.Fault words) = StatesFault stated words
