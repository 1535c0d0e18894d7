-- What `spell` prints of a statement that denotes a datagram: a mnemonic, `recv`, or `ack S MID`.
use Rattle.std.specs.Prelude.{⊤, ℕ, ◌≡◌, List, [], ◌∷◌, Option, None, Some, Result, Ok, Err, codes}
use Rattle.std.specs.Prelude.{if◌then◌else◌}
use Rattle.std.specs.List.{join_with_byte}
use Rattle.std.specs.Str.{bytes_eq}
use Rattle.std.specs.String.{string_bytes}
use Rattle.hex.specs.Hex.{IsBytes, encode_upper}
use Rattle.device_machine.specs.declared.event.Event.TheVariants.{Recv}
use Rattle.scenario_image.specs.declared.step.Step.TheVariants.{Event}
use Rattle.scenario_image.specs.Scenario.{is_within_limits}
use Rattle.scenario_words.specs.declared.cause.Cause.{Cause}
use Rattle.scenario_words.specs.declared.cause.Cause.TheVariants.{Limit, Missing, Range}
use Rattle.scenario_words.specs.Reading.{◌>>=◌}
use Rattle.scenario_words.specs.Words.{ended_line, words}
use Rattle.scenario_mnemonics.specs.Messages.{datagram_of, fits_mnemonic}
use Rattle.scenario_statements.specs.declared.statement.Statement.{Statement}
use Rattle.scenario_statements.specs.declared.statement.Statement.TheVariants as says
use Rattle.scenario_statements.specs.Grammar.{statement_of}
use Rattle.scenario_asm.specs.declared.limit.ScenarioLimit.{ScenarioLimit}
use Rattle.scenario_asm.specs.declared.limit.ScenarioLimit.TheVariants.{Datagram}
use Rattle.command_files.specs.Answers.{files_of}
use Rattle.command_files.specs.declared.answer.Answer.{Answer}
use Rattle.command_files.specs.declared.fault.Fault.{Fault}
use Rattle.command_files.specs.declared.fault.Fault.TheVariants.{Memory, NoDatagram, Text}
use Rattle.command_files.specs.declared.refusal.Why.{Why}
use Rattle.command_files.specs.declared.status.Status.TheVariants.{Done}
use Rattle.command_texts.specs.Blamed.{IsBlamed, cause_in, statement_cause}
use Rattle.scenario_statements.specs.Acks.{ack_datagram, ack_from}
use Rattle.command_words.specs.declared.arrival.Arrival.{Arrival}

-- a datagram that a step of a scenario may have
abbrev pub within_limits : Arrival → Result (Option Arrival) Cause
within_limits a = if is_within_limits (Event (Recv a.server a.bytes)) then Ok (Some a) else Err Limit

-- the datagram that a statement denotes, if it denotes one; the path of a mnemonic has as many numbers as it needs
abbrev pub arrival_of_statement : Statement → Result (Option Arrival) Cause
arrival_of_statement (says.Recv server bytes) = within_limits (record { server = server; bytes = bytes })
arrival_of_statement (says.Request server m) =
    if fits_mnemonic m then within_limits (record { server = server; bytes = datagram_of m }) else Err Range
arrival_of_statement _ = Ok None

-- the datagram of the words after `ack`
abbrev pub ack : List (List ℕ) → Result (Option Arrival) Cause
ack ws = ack_from ws >>= (λ a. Ok (Some (record { server = a.server; bytes = ack_datagram a.mid })))

-- a line without words states nothing, and is refused as a text that states nothing is
abbrev pub denoted_by : Option Statement → Result (Option Arrival) Cause
denoted_by None = Err Missing
denoted_by (Some s) = arrival_of_statement s

-- the datagram of the statement that words say
abbrev pub arrival_of_statement_words : List (List ℕ) → Result (Option Arrival) Cause
arrival_of_statement_words ws = statement_of ws >>= denoted_by

-- the datagram that words denote, if they denote one: those of `ack`, or those of a statement
abbrev pub arrival_of : List (List ℕ) → Result (Option Arrival) Cause
arrival_of [] = Err Missing
arrival_of (w ∷ ws) = if bytes_eq w (codes "ack") then ack ws else arrival_of_statement_words (w ∷ ws)

-- the words of the command line, joined by spaces, as the words of one line
abbrev pub said_words : List (List ℕ) → List (List ℕ)
said_words given = words (join_with_byte 32 given)

-- `spell STATEMENT`: the datagram in hex, in upper case
pub record IsSpellDone (given : List (List ℕ)) (answer : Answer) : Type 0 where
  pub arrival : Arrival
  pub denotes : arrival_of (said_words given) ≡ Ok (Some arrival)
  pub octets : IsBytes arrival.bytes
  pub text_is : string_bytes answer.text ≡ ended_line (encode_upper arrival.bytes)
  pub status_is : answer.status ≡ Done
  pub made_is : files_of answer.file ≡ []

-- a datagram that is too long is the one limit
abbrev pub passed_by : Cause → Option ScenarioLimit
passed_by Limit = Some Datagram
passed_by _ = None

-- the words are refused for this cause, as in the first line of a text; or they denote no datagram; or memory ran out
abbrev pub IsSpellFault : List (List ℕ) → Fault → Type 0
IsSpellFault given (Text fault) =
    (fault.line ≡ 1) × (arrival_of (said_words given) ≡ Err fault.cause) × (fault.limit ≡ passed_by fault.cause)
IsSpellFault given NoDatagram = arrival_of (said_words given) ≡ Ok None
IsSpellFault given Memory = ⊤
IsSpellFault given _ = ⊥

-- ---- what is to blame

-- why words are refused, whatever they denote
abbrev pub words_cause : List (List ℕ) → Option Cause
words_cause [] = statement_cause []
words_cause (w ∷ ws) = if bytes_eq w (codes "ack") then cause_in (ack ws) else statement_cause (w ∷ ws)

-- what is said of words that are refused: which of them is to blame
abbrev pub IsSpellWhy : List (List ℕ) → Fault → Why → Type 0
IsSpellWhy given (Text fault) why = IsBlamed words_cause (join_with_byte 32 given) fault why
IsSpellWhy given _ why = ⊤
