-- What an answer makes and prints, and what is left where it could not be.
use Rattle.std.specs.Prelude.{ℕ, ◌≡◌, ◌⊎◌, List, [], ◌∷◌, Option, None, Some, IfSome}
use Rattle.std.specs.String.{string_bytes}
use Rattle.command_files.specs.Fault.{IsWritingFault}
use Rattle.command_files.specs.Files.{Grows, MadeFile}
use Rattle.command_files.specs.World.{StreamFaults, World}
use Rattle.command_files.specs.declared.answer.Answer.{Answer}
use Rattle.command_files.specs.declared.answer.NewFile.{NewFile}
use Rattle.command_files.specs.declared.fault.Fault.{Fault}
use Rattle.command_files.specs.declared.fault.Fault.TheVariants.{Memory, Write}
use Rattle.command_files.specs.declared.files.FileFault.{FileFault}
use Rattle.command_files.specs.declared.files.FileFault.TheVariants as file

-- the files that an answer makes: one or none
abbrev pub files_of : Option NewFile → List MadeFile
files_of None = []
files_of (Some f) = (record { path = f.path.now; bytes = f.bytes }) ∷ []

-- the fault of what was not written: a lack of memory is not its fault
abbrev pub writing_fault : FileFault → Fault
writing_fault file.Memory = Memory
writing_fault (file.Failed why) = Write

-- the file was not made: no file was, and nothing was printed
pub record IsUnmade (refuses : List ℕ → Type 0) (before after : World) (answer : Answer) (fault : Fault) : Type 0 where
  pub failed : IsWritingFault (IfSome answer.file (λ f. refuses f.path.now)) fault
  pub none : after.made ≡ before.made
  pub silent : after.streams.output ≡ before.streams.output

-- the file was made, if there is one, and the text was not printed
pub record IsUnprinted (faults : StreamFaults) (before after : World) (answer : Answer) (fault : Fault) : Type 0 where
  pub failed : IsWritingFault (faults.output_refuses (string_bytes answer.text)) fault
  pub made : Grows before.made after.made (files_of answer.file)

abbrev pub IsUndelivered : (List ℕ → Type 0) → StreamFaults → World → World → Answer → Fault → Type 0
IsUndelivered refuses faults before after answer fault =
    IsUnmade refuses before after answer fault ⊎ IsUnprinted faults before after answer fault
