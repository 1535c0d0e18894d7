-- A log that is read from an input: the bytes that it had still to give before and after, where they are known.
use Rattle.std.specs.Prelude.{ℕ, ◌≡◌, ◌<◌, ◌⊎◌, List, [], length, Option, IfSome}
use Rattle.command_files.specs.Fault.{IsReadingFault}
use Rattle.command_files.specs.Files.{most_bytes}
use Rattle.command_files.specs.Input.{WhereKnown}
use Rattle.command_files.specs.declared.answer.Answer.{Answer}
use Rattle.command_files.specs.declared.fault.Fault.{Fault}
use Rattle.command_words.specs.Logs.{IsLogFault, IsLogSaid}

-- these were all bytes, and none is left
abbrev pub IsAll : List ℕ → List ℕ → List ℕ → Type 0
IsAll log bytes rest = (bytes ≡ log) × (rest ≡ [])

-- there are more than 64 MiB; where that is known
abbrev pub IsBeyond : Option (List ℕ) → Type 0
IsBeyond bytes = IfSome bytes (λ bs. most_bytes < length bs)

-- the whole input is a log, of which this is said
abbrev pub IsInputSaid : Option (List ℕ) → Option (List ℕ) → ℕ → Answer → Type 0
IsInputSaid before after server answer =
    (log : List ℕ) × WhereKnown (IsAll log) before after × IsLogSaid log server answer

-- the input could not be read, or has more than 64 MiB; or the whole is a log with this fault
abbrev pub IsInputRefused : Type 0 → Option (List ℕ) → Option (List ℕ) → Fault → Type 0
IsInputRefused fails before after fault =
    IsReadingFault (fails ⊎ IsBeyond before) fault
    ⊎ ((log : List ℕ) × WhereKnown (IsAll log) before after × IsLogFault log fault)
