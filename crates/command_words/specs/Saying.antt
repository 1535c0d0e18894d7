-- What `say` prints of a datagram.
use Rattle.std.specs.Prelude.{⊤, ℕ, ◌≡◌, List, [], ◌++◌, Option, None, Some, IsErr}
use Rattle.std.specs.Result.{IsOkAnd}
use Rattle.std.specs.String.{string_bytes}
use Rattle.hex.specs.Hex.{decode_of}
use Rattle.coap_codec.specs.Reading.{reading_of}
use Rattle.scenario_words.specs.Words.{ended_line}
use Rattle.trace_text.specs.Datagrams.{statement_text}
use Rattle.trace_text.specs.Lines.{said_line}
use Rattle.command_files.specs.Answers.{files_of}
use Rattle.command_files.specs.declared.answer.Answer.{Answer}
use Rattle.command_files.specs.declared.fault.Fault.{Fault}
use Rattle.command_files.specs.declared.fault.Fault.TheVariants as faults
use Rattle.command_files.specs.declared.status.Status.TheVariants.{Done}
use Rattle.scenario_statements.specs.Acks.{ack_line, acknowledged_id}

-- of an Empty ACK of this message ID `ack S MID` and what it says, of any other its words and what it says, as `show`
-- prints them where it arrives
abbrev pub text_as : Option ℕ → ℕ → List ℕ → List ℕ
text_as None server bytes = statement_text server bytes
text_as (Some mid) server bytes = ended_line (ack_line server mid) ++ said_line bytes

-- the lines of a datagram that comes from a server: the statement that denotes it, and what it says in words
abbrev pub said_text : ℕ → List ℕ → List ℕ
said_text server bytes = text_as (acknowledged_id (reading_of bytes)) server bytes

-- `say HEX [--server S]`
pub record IsSayDone (hex : List ℕ) (server : ℕ) (answer : Answer) : Type 0 where
  pub text_is : IsOkAnd (decode_of hex) (λ bytes. string_bytes answer.text ≡ said_text server bytes)
  pub status_is : answer.status ≡ Done
  pub made_is : files_of answer.file ≡ []

-- the word is not hex; or memory ran out
abbrev pub IsSayFault : List ℕ → Fault → Type 0
IsSayFault hex faults.Hex = IsErr (decode_of hex)
IsSayFault hex faults.Memory = ⊤
IsSayFault hex _ = ⊥
