-- How the program ends where its words could not be had.
use Rattle.std.specs.Prelude.{ℕ, ◌≡◌, ◌≢◌, ◌⊎◌, List, Option}
use Rattle.std.specs.Io.KnownBytes.{Appends}
use Rattle.std.specs.declared.io.ErrorKind.{ErrorKind}
use Rattle.std.specs.declared.io.ErrorKind.TheVariants.{OutOfMemory}
use Rattle.command_files.specs.Fault.{IsWritingFault}
use Rattle.command_files.specs.Refusals.{IsTold}
use Rattle.command_files.specs.World.{StreamFaults, Streams, World}
use Rattle.command_files.specs.declared.fault.Fault.{Fault}
use Rattle.command_files.specs.declared.fault.Fault.TheVariants.{Memory}
use Rattle.command_files.specs.declared.status.Status.{Status}
use Rattle.command_files.specs.declared.status.Status.TheVariants as ends

-- memory ran out, or the text was not printed
pub record IsUnreadFault (faults : StreamFaults) (before after : Streams) (text : List ℕ) (why : ErrorKind)
    : Type 0 where
  pub fault : Fault
  -- the streams when the fault was met: standard error had got nothing
  pub between : Streams
  pub cause :
      ((why ≡ OutOfMemory) × (fault ≡ Memory) × (between.output ≡ before.output))
      ⊎ IsWritingFault (faults.output_refuses text) fault
  pub silent : between.errors ≡ before.errors
  -- what standard error names
  pub about : Option (List ℕ)
  pub told : IsTold faults between after about fault

-- a word is not a text, and that was printed; or there was a fault
abbrev pub IsToldUnread : StreamFaults → Streams → Streams → List ℕ → ErrorKind → Status → Type 0
IsToldUnread faults before after text why status =
    ((status ≡ ends.Usage) × (why ≢ OutOfMemory) × Appends before.output after.output text
    × (after.errors ≡ before.errors))
    ⊎ ((status ≡ ends.Fault) × IsUnreadFault faults before after text why)

-- the same, and nothing was read from standard input, and no file was made
pub record EndsUnread (faults : StreamFaults) (before after : World) (text : List ℕ) (why : ErrorKind)
    (status : Status) : Type 0 where
  pub told : IsToldUnread faults before.streams after.streams text why status
  pub none_made : after.made ≡ before.made
  pub none_read : after.streams.input ≡ before.streams.input
