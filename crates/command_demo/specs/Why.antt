-- What `one --why HEX` comes to.
use Rattle.std.specs.Prelude.{ℕ, ◌≡◌, List, [], ◌∷◌, ◌++◌, codes}
use Rattle.std.specs.List.{flat_map}
use Rattle.std.specs.Result.{IsOkAnd}
use Rattle.std.specs.String.{string_bytes}
use Rattle.hex.specs.Hex.{decode_of}
use Rattle.coap_codec.specs.Reading.{reading_of}
use Rattle.device_machine.specs.declared.output.Output.{Output}
use Rattle.device_machine.specs.declared.output.Output.TheVariants.{Send, Act}
use Rattle.scenario_words.specs.Words.{ended_line}
use Rattle.message_words.specs.Text.{reading_text}
use Rattle.device_reasons.specs.Text.{IsReasonLine}
use Rattle.debug_answers.specs.Outputs.{output_line, output_lines}
use Rattle.command_files.specs.Answers.{files_of}
use Rattle.command_files.specs.declared.answer.Answer.{Answer}
use Rattle.command_files.specs.declared.status.Status.TheVariants.{Done}
use Rattle.command_demo.specs.Demo.{demo_outputs, demo_start}

-- what a reply says, in a line that begins as a comment does; an act says nothing
abbrev pub reply_line : Output → List ℕ
reply_line (Send server bytes) = ended_line (codes "    # " ++ reading_text (reading_of bytes))
reply_line (Act act) = []

-- the lines of outputs; below the first of them what it says, and then the line of a reason, which without an output
-- stands below the line `nothing`
abbrev pub explained_lines : List Output → List ℕ → List ℕ
explained_lines [] line = output_lines [] ++ line
explained_lines (output ∷ outputs) line =
    output_line output ++ (reply_line output ++ (line ++ flat_map output_line outputs))

-- the lines of what the DEMO device, just started, outputs where server 1 sends these bytes, and why it does
abbrev pub IsExplained : List ℕ → List ℕ → Type 0
IsExplained bytes text =
    (line : List ℕ) × IsReasonLine demo_start 1 bytes line × (text ≡ explained_lines (demo_outputs bytes) line)

pub record IsOneWhyDone (hex : List ℕ) (answer : Answer) : Type 0 where
  pub text_is : IsOkAnd (decode_of hex) (λ bytes. IsExplained bytes (string_bytes answer.text))
  pub status_is : answer.status ≡ Done
  pub made_is : files_of answer.file ≡ []
