-- What `one HEX` comes to.
use Rattle.std.specs.Prelude.{⊤, ℕ, ◌≡◌, List, [], IsErr}
use Rattle.std.specs.Result.{IsOkAnd}
use Rattle.std.specs.String.{string_bytes}
use Rattle.hex.specs.Hex.{decode_of}
use Rattle.debug_answers.specs.Outputs.{output_lines}
use Rattle.command_files.specs.Answers.{files_of}
use Rattle.command_files.specs.declared.answer.Answer.{Answer}
use Rattle.command_files.specs.declared.fault.Fault.{Fault}
use Rattle.command_files.specs.declared.fault.Fault.TheVariants as faults
use Rattle.command_files.specs.declared.status.Status.TheVariants.{Done}
use Rattle.command_demo.specs.Demo.{demo_outputs}

-- the lines of what the DEMO device outputs
pub record IsOneDone (hex : List ℕ) (answer : Answer) : Type 0 where
  pub text_is : IsOkAnd (decode_of hex) (λ bytes. string_bytes answer.text ≡ output_lines (demo_outputs bytes))
  pub status_is : answer.status ≡ Done
  pub made_is : files_of answer.file ≡ []

-- the word is not hex; or memory ran out
abbrev pub IsOneFault : List ℕ → Fault → Type 0
IsOneFault hex faults.Hex = IsErr (decode_of hex)
IsOneFault hex faults.Memory = ⊤
IsOneFault hex _ = ⊥
