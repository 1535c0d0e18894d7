-- What is found in a file.
use Rattle.std.specs.Prelude.{◌≡◌, ℕ, ◌⊎◌, List, Ok, Err}
use Rattle.std.specs.Str.{IsUtf8}
use Rattle.byte_layout.specs.declared.fault.LayoutFault.{LayoutFault}
use Rattle.byte_layout.specs.Whole.{HasFault}
use Rattle.scenario_image.specs.Image.{IsImage, HasImageFault}
use Rattle.scenario_asm.specs.declared.fault.AsmFault.{AsmFault}
use Rattle.scenario_asm.specs.Text.{scenario_of_text}
use Rattle.trace_file.specs.Layout.{trace_file, IsTraceFile}
use Rattle.case_text.specs.declared.file_case.FileKind.{FileKind}
use Rattle.case_text.specs.declared.file_case.FileKind.TheVariants.{Image, Trace, Text}
use Rattle.case_play.specs.Faults.{fault_words}
use Rattle.case_play.specs.declared.finding.Finding.{Finding}
use Rattle.case_play.specs.declared.finding.Finding.TheVariants.{Scenario, Entries, Fault}
use Rattle.case_play.specs.FaultWords.{text_fault_words, unreadable_words}

-- an image is that of a scenario, or has a fault
abbrev pub IsInImage : List ℕ → Finding → Type 0
IsInImage bytes (Scenario s) = IsImage bytes s
IsInImage bytes (Entries es) = ⊥
IsInImage bytes (Fault words) = (f : LayoutFault) × HasImageFault bytes f × (words ≡ fault_words f)

-- a trace file is that of entries, or has a fault
abbrev pub IsInTrace : List ℕ → Finding → Type 0
IsInTrace bytes (Scenario s) = ⊥
IsInTrace bytes (Entries es) = IsTraceFile bytes es
IsInTrace bytes (Fault words) = (f : LayoutFault) × HasFault trace_file bytes f × (words ≡ fault_words f)

-- these bytes are refused as a text: they are not UTF-8, or a line is refused
abbrev pub IsNoText : List ℕ → List ℕ → Type 0
IsNoText bytes words =
    ((IsUtf8 bytes → ⊥) × (words ≡ unreadable_words))
    ⊎ ((f : AsmFault) × IsUtf8 bytes × (scenario_of_text bytes ≡ Err f) × (words ≡ text_fault_words f))

-- a text is that of a scenario, or is refused
abbrev pub IsInText : List ℕ → Finding → Type 0
IsInText bytes (Scenario s) = IsUtf8 bytes × (scenario_of_text bytes ≡ Ok s)
IsInText bytes (Entries es) = ⊥
IsInText bytes (Fault words) = IsNoText bytes words

-- what is found in a file of a kind
abbrev pub IsFinding : FileKind → List ℕ → Finding → Type 0
IsFinding Image bytes finding = IsInImage bytes finding
IsFinding Trace bytes finding = IsInTrace bytes finding
IsFinding Text bytes finding = IsInText bytes finding
