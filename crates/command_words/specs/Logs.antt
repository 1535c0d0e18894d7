-- What `say -` prints of a log: of each line that is not empty, what `say` prints of its datagram.
use Rattle.std.specs.Prelude.{⊤, ℕ, ◌≡◌, ◌+◌, ◌==◌, nat_lt, List, [], ◌∷◌, ◌++◌, map, reverse, filter, length, None}
use Rattle.std.specs.Prelude.{Result, Ok, IsErr}
use Rattle.std.specs.Prelude.{if◌then◌else◌}
use Rattle.std.specs.List.{flat_map}
use Rattle.std.specs.String.{string_bytes}
use Rattle.hex.specs.Hex.{decode_of}
use Rattle.hex.specs.declared.error.FromHexError.{FromHexError}
use Rattle.scenario_words.specs.Words.{lines}
use Rattle.scenario_words.specs.declared.cause.Cause.TheVariants.{Token}
use Rattle.command_files.specs.Answers.{files_of}
use Rattle.command_files.specs.declared.answer.Answer.{Answer}
use Rattle.command_files.specs.declared.fault.Fault.{Fault}
use Rattle.command_files.specs.declared.fault.Fault.TheVariants.{Memory, Text}
use Rattle.command_files.specs.declared.status.Status.TheVariants.{Done}
use Rattle.command_words.specs.Saying.{said_text}

-- bytes without the spaces (32) before them
abbrev pub after_spaces : List ℕ → List ℕ
after_spaces [] = []
after_spaces (b ∷ bs) = if b == 32 then after_spaces bs else b ∷ bs

-- a line without the spaces around it
abbrev pub trimmed_line : List ℕ → List ℕ
trimmed_line line = reverse (after_spaces (reverse (after_spaces line)))

-- the lines that are not empty, without the spaces around them
abbrev pub hex_lines : List (List ℕ) → List (List ℕ)
hex_lines ls = filter (λ l. nat_lt 0 (length l)) (map trimmed_line ls)

-- hex that is read as these bytes
abbrev pub read_as : List ℕ → Result (List ℕ) FromHexError
read_as bytes = Ok bytes

-- each of these lines that is not empty is the hex of one of these datagrams, in their order
pub record AreDatagrams (ls : List (List ℕ)) (datagrams : List (List ℕ)) : Type 0 where
  pub read : map decode_of (hex_lines ls) ≡ map read_as datagrams

-- `say - [--server S]`, over this log
pub record IsLogSaid (log : List ℕ) (server : ℕ) (answer : Answer) : Type 0 where
  pub datagrams : List (List ℕ)
  pub are : AreDatagrams (lines log) datagrams
  pub text_is : string_bytes answer.text ≡ flat_map (said_text server) datagrams
  pub status_is : answer.status ≡ Done
  pub made_is : files_of answer.file ≡ []

-- this line, counted from 1, is not hex, and those before it are
pub record IsFirstWrong (log : List ℕ) (line : ℕ) : Type 0 where
  pub before : List (List ℕ)
  pub here : List ℕ
  pub behind : List (List ℕ)
  pub cut : lines log ≡ before ++ here ∷ behind
  pub count : line ≡ length before + 1
  pub datagrams : List (List ℕ)
  pub are : AreDatagrams before datagrams
  pub wrong : IsErr (decode_of (trimmed_line here))

-- a line of the log is not hex; or memory ran out
abbrev pub IsLogFault : List ℕ → Fault → Type 0
IsLogFault log (Text fault) = (fault.cause ≡ Token) × (fault.limit ≡ None) × IsFirstWrong log fault.line
IsLogFault log Memory = ⊤
IsLogFault log _ = ⊥
