-- What `say` prints of what `spell` printed.
use Rattle.std.specs.Prelude.{ℕ, ◌≡◌, ◌<◌, List, ◌++◌, Ok, Some}
use Rattle.std.specs.String.{string_bytes}
use Rattle.scenario_words.specs.Words.{ended_line}
use Rattle.scenario_mnemonics.specs.declared.mnemonic.Mnemonic.{Mnemonic}
use Rattle.scenario_mnemonics.specs.Messages.{IsGood, datagram_of}
use Rattle.scenario_statements.specs.declared.statement.Statement.{Statement}
use Rattle.scenario_statements.specs.declared.statement.Statement.TheVariants as says
use Rattle.scenario_statements.specs.Grammar.{statement_of}
use Rattle.scenario_statements.specs.Spelling.{line_of}
use Rattle.command_files.specs.declared.answer.Answer.{Answer}
use Rattle.scenario_statements.specs.Acks.{ack_datagram, ack_line, ack_words}
use Rattle.command_words.specs.Saying.{IsSayDone}
use Rattle.command_words.specs.Spelling.{IsSpellDone, said_words}

-- of what `spell` prints for these words, `say` with this server prints this line first
abbrev pub IsSaidAgain : List (List ℕ) → ℕ → List ℕ → Type 0
IsSaidAgain given server line =
    (spelled said : Answer) (hex : List ℕ) → IsSpellDone given spelled → string_bytes spelled.text ≡ ended_line hex
    → IsSayDone hex server said → (behind : List ℕ) × (string_bytes said.text ≡ ended_line line ++ behind)

-- the words say this statement
abbrev pub Says : List (List ℕ) → Statement → Type 0
Says given s = statement_of (said_words given) ≡ Ok (Some s)

-- a mnemonic is said again, whatever spelling its words had
abbrev pub MnemonicsAreSaidAgain : Type 0
MnemonicsAreSaidAgain =
    (given : List (List ℕ)) (server : ℕ) (m : Mnemonic) → Says given (says.Request server m)
    → IsSaidAgain given server (line_of (says.Request server m))

-- so is `ack S MID`, for numbers of 16 bits
abbrev pub AcksAreSaidAgain : Type 0
AcksAreSaidAgain =
    (given : List (List ℕ)) (server mid : ℕ) → server < 65536 → mid < 65536 → said_words given ≡ ack_words server mid
    → IsSaidAgain given server (ack_line server mid)

-- `recv` of the datagram of a mnemonic is said as that mnemonic
abbrev pub MnemonicsAreFound : Type 0
MnemonicsAreFound =
    (given : List (List ℕ)) (server : ℕ) (bytes : List ℕ) (m : Mnemonic) → Says given (says.Recv server bytes)
    → IsGood m → datagram_of m ≡ bytes → IsSaidAgain given server (line_of (says.Request server m))

-- that of an Empty ACK as `ack S MID`
abbrev pub AcksAreFound : Type 0
AcksAreFound =
    (given : List (List ℕ)) (server mid : ℕ) → Says given (says.Recv server (ack_datagram mid))
    → IsSaidAgain given server (ack_line server mid)

-- and of any other as it is
abbrev pub OthersAreSaidAgain : Type 0
OthersAreSaidAgain =
    (given : List (List ℕ)) (server : ℕ) (bytes : List ℕ) → Says given (says.Recv server bytes)
    → ((m : Mnemonic) → IsGood m → datagram_of m ≡ bytes → ⊥) → ((mid : ℕ) → ack_datagram mid ≡ bytes → ⊥)
    → IsSaidAgain given server (line_of (says.Recv server bytes))
