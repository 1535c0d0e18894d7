-- What a person gets on standard error beside the answer `bad command`.
use Rattle.std.specs.Prelude.{◌≡◌, ℕ, nat_le, Bool, List, [], ◌++◌, length, take, Option, None, Some, codes}
use Rattle.std.specs.Prelude.{if◌then◌else◌}
use Rattle.scenario_words.specs.Quoted.{quoted_word}
use Rattle.debug_answers.specs.declared.command.Command.{Command}
use Rattle.debug_answers.specs.Saying.{IsCommandIn, IsHelp}
use Rattle.debug_answers.specs.Help.{help_text}
use Rattle.scenario_words.specs.Words.{ended_line}

-- at most this many bytes of a line are shown
abbrev pub most_shown_bytes : ℕ
most_shown_bytes = 200

-- what follows the bytes that are shown: ` and more` where there are more
abbrev pub cut_mark : List ℕ → List ℕ
cut_mark said = if nat_le (length said) most_shown_bytes then [] else codes " and more"

abbrev pub no_command_line : List ℕ → List ℕ → List ℕ
no_command_line shown mark = ended_line (codes "lwbench: standard input: not a command: " ++ shown ++ mark)

-- the line that was not understood, in quotes: what is not printable ASCII is a backslash and two hex digits
abbrev pub no_command : List ℕ → List ℕ
no_command said = no_command_line (quoted_word (take most_shown_bytes said)) (cut_mark said)

-- the note on a line of the input of a debugger, which is asked for reasons or not: none on a command; on `help`, the
-- commands; on any other line, that it was not understood
pub record IsNote (reasons : Bool) (said : List ℕ) (note : Option (List ℕ)) : Type 0 where
  pub command : (c : Command) → IsCommandIn reasons c said → note ≡ None
  pub help : IsHelp said → note ≡ Some (help_text reasons)
  pub other : ((c : Command) → IsCommandIn reasons c said → ⊥) → (IsHelp said → ⊥) → note ≡ Some (no_command said)
