-- The file that says at which port each device is.
use Rattle.std.specs.Prelude.{ℕ, ◌≡◌, ◌+◌, List, [], ◌∷◌, ◌++◌, Option, None, Some, codes}
use Rattle.std.specs.Fmt.{decimal}
use Rattle.scenario_words.specs.Words.{ended_line}
use Rattle.command_files.specs.Fault.{IsWritingFault}
use Rattle.command_files.specs.Files.{Grows, MadeFile}
use Rattle.command_files.specs.declared.fault.Fault.{Fault}

-- `D PORT`
abbrev pub listed_line : ℕ → ℕ → List ℕ
listed_line device port = ended_line (decimal device ++ codes " " ++ decimal port)

-- the same of devices one after another, of which this is the first
abbrev pub listed_text : ℕ → List ℕ → List ℕ
listed_text device [] = []
listed_text device (port ∷ ports) = listed_line device port ++ listed_text (device + 1) ports

-- a file that has the line of each device was made at the path, if there is one; no other file
abbrev pub AreListedIf : Option (List MadeFile) → Option (List MadeFile) → Option (List ℕ) → List ℕ → Type 0
AreListedIf before after None ports = after ≡ before
AreListedIf before after (Some path) ports =
    Grows before after ((record { path = path; bytes = listed_text 0 ports }) ∷ [])

-- there is a path, and the file could not be made
abbrev pub IsUnlisted : (List ℕ → Type 0) → Option (List ℕ) → Fault → Type 0
IsUnlisted refuses None fault = ⊥
IsUnlisted refuses (Some path) fault = IsWritingFault (refuses path) fault
