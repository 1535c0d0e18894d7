-- What is known of files that are read and made.
use Rattle.std.specs.Prelude.{⊤, ℕ, ◌≡◌, ◌≢◌, List, ◌++◌, Option, None, Some}
use Rattle.std.specs.declared.io.ErrorKind.{ErrorKind}
use Rattle.std.specs.declared.io.ErrorKind.TheVariants.{OutOfMemory}
use Rattle.command_files.specs.declared.files.FileFault.{FileFault}
use Rattle.command_files.specs.declared.files.FileFault.TheVariants.{Failed, Memory}

-- 64 MiB
abbrev pub most_bytes : ℕ
most_bytes = 67108864

-- a file that was made
pub record MadeFile : Type 0 where
  pub path : List ℕ
  -- all that it has
  pub bytes : List ℕ

-- these were added to what is known, and nothing else
abbrev pub Grows : Option (List MadeFile) → Option (List MadeFile) → List MadeFile → Type 0
Grows None new more = ⊤
Grows (Some old) None more = ⊥
Grows (Some old) (Some new) more = new ≡ old ++ more

-- the fault of an error of this kind: a lack of memory is not the file's fault
abbrev pub IsFileFaultOf : ErrorKind → FileFault → Type 0
IsFileFaultOf kind Memory = kind ≡ OutOfMemory
IsFileFaultOf kind (Failed why) = kind ≢ OutOfMemory

-- the file is to blame, unless no memory was left
abbrev pub IsFailure : Type 0 → FileFault → Type 0
IsFailure failed Memory = ⊤
IsFailure failed (Failed why) = failed
