-- What was made and printed, and what was not, put together from its parts.
use Rattle.std.proofs.Common.{ℕ, ◌≡◌, List, IfSome, inl, inr}
use Rattle.std.specs.String.{string_bytes}
use Rattle.command_files.specs.Answers.{IsUndelivered, files_of, writing_fault}
use Rattle.command_files.specs.Fault.{IsWritingFault}
use Rattle.command_files.specs.Files.{Grows, IsFailure}
use Rattle.command_files.specs.World.{StreamFaults, World}
use Rattle.command_files.specs.declared.answer.Answer.{Answer}
use Rattle.command_files.specs.declared.fault.Fault.{Fault}
use Rattle.command_files.specs.declared.files.FileFault.{FileFault}
use Rattle.command_files.specs.declared.files.FileFault.TheVariants as file

pub unwritten : (refused : Type 0) (e : FileFault) → IsFailure refused e → IsWritingFault refused (writing_fault e)
unwritten refused file.Memory h = tt
unwritten refused (file.Failed why) h = h

pub unmade : (refuses : List ℕ → Type 0) (faults : StreamFaults) (before after : World) (answer : Answer)
    (fault : Fault)
    → IsWritingFault (IfSome answer.file (λ f. refuses f.path.now)) fault → after.made ≡ before.made
    → after.streams.output ≡ before.streams.output → IsUndelivered refuses faults before after answer fault
unmade refuses faults before after answer fault failed none silent =
    inl (record { failed = failed; none = none; silent = silent })

pub unprinted : (refuses : List ℕ → Type 0) (faults : StreamFaults) (before after : World) (answer : Answer)
    (fault : Fault)
    → IsWritingFault (faults.output_refuses (string_bytes answer.text)) fault
    → Grows before.made after.made (files_of answer.file) → IsUndelivered refuses faults before after answer fault
unprinted refuses faults before after answer fault failed made = inr (record { failed = failed; made = made })
