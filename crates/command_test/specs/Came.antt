-- What came, in the words of a case.
use Rattle.std.specs.Prelude.{ℕ, List, [], ◌∷◌, ◌++◌, Option, None, Some, codes, map}
use Rattle.std.specs.Fmt.{decimal}
use Rattle.std.specs.List.{flat_map}
use Rattle.std.specs.Str.Lines.{lines}
use Rattle.coap_codec.specs.Reading.{reading_of}
use Rattle.lwm2m_values.specs.declared.value.Value.{Value}
use Rattle.device_machine.specs.declared.output.Output.{Output}
use Rattle.device_machine.specs.declared.output.Output.TheVariants.{Send, Act}
use Rattle.scenario_words.specs.HexWord.{hex_word}
use Rattle.scenario_words.specs.ValueWords.{spelling_of_value}
use Rattle.message_words.specs.Text.{reading_text}
use Rattle.case_play.specs.EntryWords.{output_words}
use Rattle.case_play.specs.declared.came.Came.{Came}
use Rattle.case_play.specs.declared.came.Came.TheVariants as came
use Rattle.test_reports.specs.declared.instead.CameAnswer.{CameAnswer}

-- ---- words

abbrev pub value_or_none : Option Value → List ℕ
value_or_none None = codes "none"
value_or_none (Some v) = spelling_of_value v

abbrev pub number_or_none : Option ℕ → List ℕ
number_or_none None = codes "none"
number_or_none (Some n) = decimal n

-- the devices that wait, each after a space
abbrev pub device_words : List ℕ → List ℕ
device_words devices = flat_map (λ d. 32 ∷ decimal d) devices

-- how a run of this many entries ends, after which these devices wait
abbrev pub run_words : ℕ → List ℕ → List ℕ
run_words entries [] = codes "done " ++ decimal entries
run_words entries (d ∷ ds) = codes "stalled " ++ decimal entries ++ codes " waiting" ++ device_words (d ∷ ds)

abbrev pub counts_words : ℕ → ℕ → ℕ → List ℕ
counts_words classes devices steps =
    codes "ok " ++ decimal classes ++ codes " classes " ++ decimal devices ++ codes " devices " ++ decimal steps
    ++ codes " steps"

-- the words of an answer that stands in one line; of others those of their first line
abbrev pub came_words : Came → List ℕ
came_words came.Nowhere = codes "nothing: this cannot be"
came_words (came.Outputs outputs) = codes "nothing"
came_words (came.Value value) = codes "value " ++ value_or_none value
came_words (came.Clock second) = codes "clock " ++ decimal second
came_words (came.Observations count) = codes "observations " ++ decimal count
came_words (came.Due second) = codes "due " ++ number_or_none second
came_words (came.Run entries waiting) = run_words entries waiting
came_words (came.Image bytes) = codes "image " ++ hex_word bytes
came_words (came.Trace bytes) = codes "trace " ++ hex_word bytes
came_words came.TooLarge = codes "fault too large"
came_words (came.Text text) = codes "text"
came_words came.IsRun = codes "run"
came_words (came.NotARun entry) = codes "not a run at " ++ decimal entry
came_words (came.Fault words) = codes "fault " ++ words
came_words (came.Ok classes devices steps) = counts_words classes devices steps
came_words (came.OkEntries count) = codes "ok " ++ decimal count ++ codes " entries"
came_words (came.Entries text) = codes "entries"

-- ---- answers

-- words that are no datagram
abbrev pub plain : List ℕ → CameAnswer
plain words = record { words = words; says = None }

-- what a datagram says
abbrev pub said : List ℕ → List ℕ
said bytes = reading_text (reading_of bytes)

abbrev pub says_of : Output → Option (List ℕ)
says_of (Send server bytes) = Some (said bytes)
says_of (Act act) = None

abbrev pub output_answer : Output → CameAnswer
output_answer output = record { words = output_words output; says = says_of output }

-- outputs, or that there are none
abbrev pub output_answers : List Output → List CameAnswer
output_answers [] = plain (codes "nothing") ∷ []
output_answers (output ∷ outputs) = map output_answer (output ∷ outputs)

-- a line that stands below `text` or `entries`
abbrev pub text_line : List ℕ → CameAnswer
text_line line = plain (codes "=| " ++ line)

-- what came, answer by answer
abbrev pub answers_of : Came → List CameAnswer
answers_of (came.Outputs outputs) = output_answers outputs
answers_of (came.Text text) = plain (codes "text") ∷ map text_line (lines text)
answers_of (came.Entries text) = plain (codes "entries") ∷ map text_line (lines text)
answers_of answer = plain (came_words answer) ∷ []
