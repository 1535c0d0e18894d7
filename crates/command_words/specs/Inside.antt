-- What the clauses of private functions name. No promise rests on it.
use Rattle.std.specs.Prelude.{ℕ, ◌≡◌, List, [], ◌∷◌, ◌++◌, None}
use Rattle.std.specs.List.{flat_map}
use Rattle.scenario_words.specs.Words.{lines}
use Rattle.scenario_words.specs.declared.cause.Cause.TheVariants.{Token}
use Rattle.command_files.specs.declared.fault.Fault.{Fault}
use Rattle.command_files.specs.declared.fault.Fault.TheVariants.{Hex, Memory, Text}
use Rattle.command_words.specs.Logs.{AreDatagrams}
use Rattle.command_words.specs.Saying.{said_text}

-- what one line of a log says stands after a text
pub record IsAdded (server : ℕ) (line before after : List ℕ) : Type 0 where
  pub datagrams : List (List ℕ)
  pub are : AreDatagrams (line ∷ []) datagrams
  pub text_is : after ≡ before ++ flat_map (said_text server) datagrams

-- what the lines of a log say
pub record AreSaid (log : List ℕ) (server : ℕ) (text : List ℕ) : Type 0 where
  pub datagrams : List (List ℕ)
  pub are : AreDatagrams (lines log) datagrams
  pub text_is : text ≡ flat_map (said_text server) datagrams

-- the fault of a log of which this line has this fault
abbrev pub fault_at : ℕ → Fault → Fault
fault_at line Hex = Text (record { line = line; cause = Token; limit = None })
fault_at line _ = Memory
