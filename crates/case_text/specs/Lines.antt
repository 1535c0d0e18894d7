-- What a line of a case of a scenario is. Bytes by their codes: 10 is LF, 32 a space.
use Rattle.std.specs.Prelude.{ℕ, ◌||◌, Bool, true, false, List, [], ◌∷◌, ◌++◌, Option, None, Some, Result, Ok, Err}
use Rattle.std.specs.Prelude.{codes, if◌then◌else◌}
use Rattle.std.specs.List.{repeat}
use Rattle.std.specs.Str.{bytes_eq}
use Rattle.device_machine.specs.declared.event.Event.{Event}
use Rattle.device_machine.specs.declared.event.Event.TheVariants as event
use Rattle.scenario_words.specs.declared.cause.Cause.{Cause}
use Rattle.scenario_words.specs.declared.cause.Cause.TheVariants.{Missing, UnknownWord, Range}
use Rattle.scenario_words.specs.Words.{parts, words}
use Rattle.scenario_words.specs.Reading.{◌>>=◌}
use Rattle.scenario_mnemonics.specs.Messages.{datagram_of, fits_mnemonic}
use Rattle.scenario_statements.specs.declared.statement.Statement.{Statement}
use Rattle.scenario_statements.specs.declared.statement.Statement.TheVariants as says
use Rattle.scenario_statements.specs.declared.acks.Ack.{Ack}
use Rattle.scenario_statements.specs.Acks.{ack_datagram, said_ack}
use Rattle.scenario_statements.specs.Grammar.{statement_of}
use Rattle.scenario_statements.specs.Spelling.{line_of}
use Rattle.case_text.specs.declared.above.CaseKind.{CaseKind}
use Rattle.case_text.specs.declared.above.CaseKind.TheVariants as kinds
use Rattle.case_text.specs.declared.fault.Why.{Why}
use Rattle.case_text.specs.declared.fault.Why.TheVariants as why
use Rattle.case_text.specs.declared.item.Part.{Part}
use Rattle.case_text.specs.declared.item.Part.TheVariants as part
use Rattle.case_text.specs.declared.line.Line.{Line}
use Rattle.case_text.specs.declared.line.Line.TheVariants as is
use Rattle.case_text.specs.declared.question.Question.{Question}
use Rattle.case_text.specs.declared.stated.Stated.{Stated}
use Rattle.case_text.specs.declared.stated.Stated.TheVariants.{Written}
use Rattle.case_text.specs.declared.stated.WrittenStated.TheVariants.{TextLine}
use Rattle.case_text.specs.Asking.{question_of}
use Rattle.case_text.specs.BytesWords.{bytes_of}
use Rattle.case_text.specs.Digits.{times_of}
use Rattle.case_text.specs.Expanding.{expanded_line}
use Rattle.case_text.specs.FileStating.{recorded_stated_of}
use Rattle.case_text.specs.Marks.{begins, behind, is_headed, line_or_refusal, of_text, text_from}
use Rattle.case_text.specs.Stating.{stated_of}

-- a line that adds only an empty line to the scenario's text
abbrev pub beside : Part → Line
beside p = is.Part p (10 ∷ []) 1

-- what is stated in a case of a scenario: below a recorded trace, of this trace
abbrev pub stated_in : CaseKind → List (List ℕ) → Result Stated Cause
stated_in kinds.Recorded ws = recorded_stated_of ws
stated_in k ws = stated_of ws

abbrev pub answer_of : CaseKind → Bool → List ℕ → Result Line Why
answer_of k must_not line = line_or_refusal why.NotAnAnswer (is.Answer must_not) (stated_in k (words line))

abbrev pub text_line_of : List ℕ → Result Line Why
text_line_of line = of_text (λ t. is.Answer false (Written (TextLine t))) (text_from line)

abbrev pub ask : Bool × Question → Line
ask q = beside (part.Ask q.0 q.1)

abbrev pub question_line_of : List ℕ → Result Line Why
question_line_of line = line_or_refusal why.NotAQuestion ask (question_of (words line))

-- the event that a statement is, of any server that it names
abbrev pub event_by : Statement → Result Event Cause
event_by (says.Recv s b) = Ok (event.Recv s b)
event_by (says.Request s m) = if fits_mnemonic m then Ok (event.Recv s (datagram_of m)) else Err Range
event_by (says.Tick n) = Ok (event.Tick n)
event_by (says.Put p v) = Ok (event.Put p v)
event_by (says.Firmware n) = Ok (event.Firmware n)
event_by _ = Err UnknownWord

abbrev pub event_from : Option Statement → Result Event Cause
event_from None = Err Missing
event_from (Some s) = event_by s

-- the Empty ACK arrives
abbrev pub ack_event : Ack → Event
ack_event a = event.Recv a.server (ack_datagram a.mid)

-- the event that a line says, by what it says that is `ack S MID`
abbrev pub event_or : List ℕ → Option Ack → Result Event Cause
event_or line None = statement_of (words line) >>= event_from
event_or line (Some a) = Ok (ack_event a)

abbrev pub event_of : List ℕ → Result Event Cause
event_of line = event_or line (said_ack (words line))

abbrev pub aside_of : List ℕ → Result Line Why
aside_of line = line_or_refusal why.NotAnEvent (λ e. beside (part.Aside e)) (event_of (expanded_line (parts 32 line)))

-- a line as scenario text has it, by what it says that is `ack S MID`: the Empty ACK as `recv`, any other as it is
abbrev pub line_by : List ℕ → Option Ack → List ℕ
line_by line None = line
line_by line (Some a) = line_of (says.Recv a.server (ack_datagram a.mid))

abbrev pub line_in_text : List ℕ → List ℕ
line_in_text line = line_by line (said_ack (words line))

-- what a line of the text is by its statement, where it stands n times
abbrev pub part_by : ℕ → Statement → Part
part_by n says.Scenario = part.Line
part_by n says.Class = part.Line
part_by n (says.Notify seconds) = part.Line
part_by n (says.Account server) = part.Line
part_by n (says.Object object) = part.Line
part_by n (says.Def d) = part.Line
part_by n (says.Instance place) = part.Line
part_by n (says.Value p v) = part.Line
part_by n (says.Device class) = part.Device n
part_by n _ = part.Step n

abbrev pub part_of : ℕ → Result (Option Statement) Cause → Part
part_of n (Ok None) = part.Line
part_of n (Ok (Some s)) = part_by n s
part_of n (Err cause) = part.Line

-- the part and the text of a line of the scenario's text that stands n times
abbrev pub text_part : ℕ → List ℕ → Line
text_part n line = is.Part (part_of n (statement_of (words line))) (repeat n (line ++ 10 ∷ [])) n

-- a line of the scenario's text that stands n times
abbrev pub text_of : ℕ → List ℕ → Result Line Why
text_of n line =
    of_text (λ t. text_part n (line_in_text t)) (text_from line)

abbrev pub counted_by : Result ℕ Cause → List ℕ → Result Line Why
counted_by (Ok n) line = text_of n line
counted_by (Err cause) line = Err why.NotACount

-- N LINE, whose parts are cut at spaces
abbrev pub counted_of : List (List ℕ) → Result Line Why
counted_of [] = Err why.NotACount
counted_of (count ∷ []) = Err why.NotACount
counted_of (count ∷ w ∷ ws) = counted_by (times_of count) (expanded_line (w ∷ ws))

-- the trace file of a recorded run
abbrev pub recorded_of : List ℕ → Result Line Why
recorded_of line = line_or_refusal why.NotBytes (λ b. beside (part.Recorded b)) (bytes_of (words line))

-- a line that begins as no line of a text does; `<=` is kept for later
abbrev pub is_marked : List ℕ → Bool
is_marked line =
    begins (codes "=") line || (begins (codes "?") line || (begins (codes "!") line || begins (codes "<=") line))

-- a line without a mark, by its first word
abbrev pub unmarked_of : List ℕ → List ℕ → Result Line Why
unmarked_of w line =
    if is_marked line then Err why.NoSuchLine
    else (if is_headed (codes "trace") w line then recorded_of (behind (codes "trace") line) else text_of 1 line)

-- a line with words that begins no case and states no answer, by its first word and by how it begins
abbrev pub asking_of : List ℕ → List ℕ → Result Line Why
asking_of w line =
    if begins (codes "? ") line then question_line_of (behind (codes "? ") line)
    else (if begins (codes "! ") line then aside_of (behind (codes "! ") line)
    else (if begins (codes "*") line then counted_of (parts 32 (behind (codes "*") line)) else unmarked_of w line))

-- a line with words that begins no case, in a case of this kind
abbrev pub marked_of : CaseKind → List ℕ → List ℕ → Result Line Why
marked_of k w line =
    if begins (codes "=> ") line then answer_of k false (behind (codes "=> ") line)
    else (if begins (codes "=/> ") line then answer_of k true (behind (codes "=/> ") line)
    else (if bytes_eq line (codes "=|") then text_line_of []
    else (if begins (codes "=| ") line then text_line_of (behind (codes "=| ") line) else asking_of w line)))
