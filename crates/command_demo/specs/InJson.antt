-- What `one --json HEX` comes to.
use Rattle.std.specs.Prelude.{ℕ, ◌≡◌, List, []}
use Rattle.std.specs.Result.{IsOkAnd}
use Rattle.std.specs.String.{string_bytes}
use Rattle.hex.specs.Hex.{decode_of}
use Rattle.trace_json.specs.Answers.{one_json}
use Rattle.trace_json.specs.Writing.{json_line}
use Rattle.command_files.specs.Answers.{files_of}
use Rattle.command_files.specs.declared.answer.Answer.{Answer}
use Rattle.command_files.specs.declared.status.Status.TheVariants.{Done}
use Rattle.command_demo.specs.Demo.{demo_outputs}

-- the line of the object of what the DEMO device outputs
pub record IsOneJsonDone (hex : List ℕ) (answer : Answer) : Type 0 where
  pub text_is :
      IsOkAnd (decode_of hex) (λ bytes. string_bytes answer.text ≡ json_line (one_json (demo_outputs bytes)))
  pub status_is : answer.status ≡ Done
  pub made_is : files_of answer.file ≡ []
