-- What `one` came to, put together from its parts.
use Rattle.std.proofs.Common.{ℕ, ◌≡◌, ◌⊎◌, List, [], inl, inr}
use Rattle.std.proofs.Common.{subst}
use Rattle.std.specs.Result.{IsOkAnd}
use Rattle.std.specs.String.{string_bytes}
use Rattle.hex.specs.Hex.{decode_of}
use Rattle.command_demo.specs.Demo.{demo_outputs}
use Rattle.debug_answers.specs.Outputs.{output_lines}
use Rattle.command_files.specs.Answers.{files_of}
use Rattle.command_demo.specs.One.{IsOneDone}
use Rattle.command_files.specs.declared.fault.Fault.{Fault}
use Rattle.command_files.specs.declared.answer.Answer.{Answer}
use Rattle.command_files.specs.declared.status.Status.TheVariants.{Done}
use Rattle.std.proofs.Common.{IsErr}
use Rattle.std.proofs.Common.{sym}
use Rattle.command_files.specs.declared.fault.Fault.TheVariants as faults
use Rattle.command_demo.specs.One.{IsOneFault}
use Rattle.command_demo.specs.Why.{IsExplained, IsOneWhyDone}
use Rattle.trace_json.specs.Answers.{one_json}
use Rattle.trace_json.specs.Writing.{json_line}
use Rattle.command_demo.specs.InJson.{IsOneJsonDone}

pub one_done : (hex : List ℕ) (answer : Answer) → answer.status ≡ Done → files_of answer.file ≡ []
    → IsOkAnd (decode_of hex) (λ bytes. string_bytes answer.text ≡ output_lines (demo_outputs bytes))
    → IsOneDone hex answer
one_done hex answer ended none said = record { text_is = said; status_is = ended; made_is = none }

pub why_done : (hex : List ℕ) (answer : Answer) → answer.status ≡ Done → files_of answer.file ≡ []
    → IsOkAnd (decode_of hex) (λ bytes. IsExplained bytes (string_bytes answer.text))
    → IsOneWhyDone hex answer
why_done hex answer ended none said = record { text_is = said; status_is = ended; made_is = none }

pub json_done : (hex : List ℕ) (answer : Answer) → answer.status ≡ Done → files_of answer.file ≡ []
    → IsOkAnd (decode_of hex) (λ bytes. string_bytes answer.text ≡ json_line (one_json (demo_outputs bytes)))
    → IsOneJsonDone hex answer
json_done hex answer ended none said = record { text_is = said; status_is = ended; made_is = none }

-- the demonstration device's faults
pub no_hex : (hex : List ℕ) (f : Fault) → (f ≡ faults.Memory) ⊎ ((f ≡ faults.Hex) × IsErr (decode_of hex))
    → IsOneFault hex f
no_hex hex f (inl memory) = subst (λ g. IsOneFault hex g) (sym memory) tt
no_hex hex f (inr bad) = subst (λ g. IsOneFault hex g) (sym bad.0) bad.1

pub one_memory : (hex : List ℕ) (f : Fault) → f ≡ faults.Memory → IsOneFault hex f
one_memory hex f same = subst (λ g. IsOneFault hex g) (sym same) tt
