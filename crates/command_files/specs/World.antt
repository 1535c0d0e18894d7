-- What the files and the streams were at one moment, where that is known, and what is known of why one of them failed.
use Rattle.std.specs.Prelude.{ℕ, ◌≡◌, List, Option}
use Rattle.command_files.specs.Files.{MadeFile}
use Rattle.command_files.specs.declared.files.Files as files

-- the streams at one moment
pub record Streams : Type 0 where
  -- what standard input has still to give
  pub input : Option (List ℕ)
  -- what standard output got
  pub output : Option (List ℕ)
  -- what standard error got
  pub errors : Option (List ℕ)

-- why a stream failed
pub record StreamFaults : Type 1 where
  -- standard input could not be read
  pub input_fails : Type 0
  -- standard output did not take these bytes
  pub output_refuses : List ℕ → Type 0
  -- standard error did not take these bytes
  pub errors_refuse : List ℕ → Type 0

-- the files and the streams at one moment
pub record World : Type 0 where
  -- the files that were made
  pub made : Option (List MadeFile)
  pub streams : Streams

-- what is known of files
pub record FilesKnown : Type 1 where
  -- the file at this path had these bytes when it was read
  pub holds : List ℕ → List ℕ → Type 0
  -- the file at this path could not be read
  pub fails : List ℕ → Type 0
  -- no file could be made at this path
  pub refuses : List ℕ → Type 0

-- what is known of files, by what their trait says of them
abbrev pub known_by : {F : Type 0} → files.Ghosts F → F → FilesKnown
known_by members f = record { holds = members.holds f; fails = members.fails f; refuses = members.refuses }

-- ---- what stays

-- only files were made
abbrev pub OnlyMakes : World → World → Type 0
OnlyMakes before after =
    (after.streams.input ≡ before.streams.input) × (after.streams.output ≡ before.streams.output)
    × (after.streams.errors ≡ before.streams.errors)

-- only standard input was read
abbrev pub OnlyReads : World → World → Type 0
OnlyReads before after =
    (after.made ≡ before.made) × (after.streams.output ≡ before.streams.output)
    × (after.streams.errors ≡ before.streams.errors)

-- only standard output got something
abbrev pub OnlyPrints : World → World → Type 0
OnlyPrints before after =
    (after.made ≡ before.made) × (after.streams.input ≡ before.streams.input)
    × (after.streams.errors ≡ before.streams.errors)

-- only standard error got something
abbrev pub OnlyNotes : World → World → Type 0
OnlyNotes before after =
    (after.made ≡ before.made) × (after.streams.input ≡ before.streams.input)
    × (after.streams.output ≡ before.streams.output)

-- only standard output and standard error got something
abbrev pub OnlySays : World → World → Type 0
OnlySays before after = (after.made ≡ before.made) × (after.streams.input ≡ before.streams.input)

-- nothing was printed
abbrev pub IsSilent : Streams → Streams → Type 0
IsSilent before after = (after.output ≡ before.output) × (after.errors ≡ before.errors)

-- nothing was read from standard input, and standard error got nothing
abbrev pub IsAside : Streams → Streams → Type 0
IsAside before after = (after.input ≡ before.input) × (after.errors ≡ before.errors)

-- nothing was read, and nothing printed
abbrev pub IsIdle : Streams → Streams → Type 0
IsIdle before after =
    (after.input ≡ before.input) × (after.output ≡ before.output) × (after.errors ≡ before.errors)
