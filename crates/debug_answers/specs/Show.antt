-- The lines of a value and of observations.
use Rattle.std.specs.Prelude.{ℕ, List, [], ◌++◌, length, Option, None, Some, codes}
use Rattle.std.specs.Fmt.{decimal}
use Rattle.std.specs.List.{flat_map}
use Rattle.lwm2m_values.specs.declared.value.Value.{Value}
use Rattle.object_defs.specs.Path.{path_text}
use Rattle.notifier.specs.declared.observation.Observation.{Observation}
use Rattle.notifier.specs.declared.observation.Timer.{Timer}
use Rattle.scenario_words.specs.HexWord.{hex_word}
use Rattle.scenario_words.specs.ValueWords.{spelling_of_value}
use Rattle.scenario_words.specs.Words.{ended_line}

-- a value as scenario text has it, or `none`
abbrev pub value_line : Option Value → List ℕ
value_line None = ended_line (codes "none")
value_line (Some v) = ended_line (spelling_of_value v)

-- the end of the line of an observation: ` open` where its last message awaits an acknowledgement
abbrev pub line_end : Option Timer → List ℕ
line_end None = []
line_end (Some timer) = codes " open"

-- `S TOKEN PATH NUMBER`, the token and the path as words, and this end
abbrev pub observation_words : ℕ → List ℕ → List ℕ → ℕ → List ℕ → List ℕ
observation_words server token path number ending =
    ended_line (decimal server ++ codes " " ++ token ++ codes " " ++ path ++ codes " " ++ decimal number ++ ending)

-- an observation: its server, its token in hex (`-` for none), its path, the Observe number of its last message, and
-- whether it is open
abbrev pub observation_line : Observation → List ℕ
observation_line o = observation_words o.server (hex_word o.token) (path_text o.path) o.number (line_end o.timer)

-- `observations K`
abbrev pub count_line : ℕ → List ℕ
count_line count = ended_line (codes "observations " ++ decimal count)

-- how many observations there are, and the line of each in turn
abbrev pub observation_lines : List Observation → List ℕ
observation_lines os = count_line (length os) ++ flat_map observation_line os
