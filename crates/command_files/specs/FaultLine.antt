-- What the program prints for a fault.
use Rattle.std.specs.Prelude.{ℕ, List, ◌++◌, Option, None, Some, codes}
use Rattle.std.specs.Fmt.{decimal}
use Rattle.scenario_words.specs.CauseWords.{cause_words}
use Rattle.scenario_words.specs.declared.cause.Cause.{Cause}
use Rattle.case_text.specs.declared.fault.Why.{Why}
use Rattle.case_text.specs.declared.fault.Why.TheVariants as why
use Rattle.byte_layout.specs.declared.fault.LayoutFault.{LayoutFault}
use Rattle.byte_layout.specs.declared.fault.LayoutFault.TheVariants.{Magic, Version, Cut, Trailing, BadField, Limit}
use Rattle.byte_layout.specs.declared.fault.LayoutFault.TheVariants as layout
use Rattle.device_template.specs.declared.fault.TemplateFault.{TemplateFault}
use Rattle.device_template.specs.declared.fault.TemplateFault.TheVariants as template
use Rattle.scenario_image.specs.declared.fault.ScenarioFault.{ScenarioFault}
use Rattle.scenario_image.specs.declared.fault.ScenarioFault.TheVariants as session
use Rattle.scenario_words.specs.Words.{ended_line}
use Rattle.command_files.specs.declared.fault.Fault.{Fault}
use Rattle.command_files.specs.declared.fault.Fault.TheVariants as faults

-- the word of a fault of bytes
abbrev pub layout_word : LayoutFault → List ℕ
layout_word Magic = codes "magic"
layout_word Version = codes "version"
layout_word Cut = codes "cut"
layout_word Trailing = codes "trailing"
layout_word (BadField place) = codes "bad field"
layout_word (Limit place) = codes "limit"
layout_word layout.Memory = codes "memory"

-- the word of a refusal of a template
abbrev pub template_word : TemplateFault → List ℕ
template_word template.Range = codes "range"
template_word template.Missing = codes "missing"
template_word template.Duplicate = codes "duplicate"
template_word template.Full = codes "full"
template_word template.Memory = codes "memory"

-- the word of a refusal of a session's steps
abbrev pub session_word : ScenarioFault → List ℕ
session_word session.Range = codes "range"
session_word session.Missing = codes "missing"
session_word session.Limit = codes "limit"
session_word session.Memory = codes "memory"

-- the words of a refusal of a file of cases
abbrev pub case_word : Why → List ℕ
case_word why.NotText = codes "no text"
case_word (why.NotAnAnswer cause) = codes "no such answer"
case_word (why.NotAQuestion cause) = codes "no such question"
case_word (why.NotAnEvent cause) = codes "no such event"
case_word (why.NotAnExpectation cause) = codes "no such expectation"
case_word why.NotACount = codes "`*` wants a number up to 100,000 and a line"
case_word (why.NotBytes cause) = codes "no such bytes"
case_word why.NoSuchLine = codes "no such line"
case_word why.AddsToNothing = codes "this adds to nothing"
case_word why.NoTextAbove = codes "no `=> text` stands above this"
case_word why.BeforeFirstCase = codes "this stands before the first case"
case_word why.NoTitle = codes "a case without a title"
case_word why.SameTitle = codes "a case with the title of one above"
case_word why.NoAnswer = codes "a case that states no answer"
case_word why.NoAnswerBelow = codes "no answer stands below this"
case_word why.NoCase = codes "no case"
case_word why.Memory = codes "memory"

-- the cause for which the words of an answer, a question, an event, an expectation or bytes are refused
abbrev pub case_cause : Why → Option Cause
case_cause (why.NotAnAnswer cause) = Some cause
case_cause (why.NotAQuestion cause) = Some cause
case_cause (why.NotAnEvent cause) = Some cause
case_cause (why.NotAnExpectation cause) = Some cause
case_cause (why.NotBytes cause) = Some cause
case_cause why.NotText = None
case_cause why.NotACount = None
case_cause why.NoSuchLine = None
case_cause why.AddsToNothing = None
case_cause why.NoTextAbove = None
case_cause why.BeforeFirstCase = None
case_cause why.NoTitle = None
case_cause why.SameTitle = None
case_cause why.NoAnswer = None
case_cause why.NoAnswerBelow = None
case_cause why.NoCase = None
case_cause why.Memory = None

-- the word of a fault
abbrev pub fault_word : Fault → List ℕ
fault_word faults.Hex = codes "hex"
fault_word faults.Memory = codes "memory"
fault_word faults.Read = codes "read"
fault_word faults.Write = codes "write"
fault_word faults.TooLarge = codes "too large"
fault_word (faults.Layout fault) = layout_word fault
fault_word (faults.Text fault) = cause_words fault.cause
fault_word (faults.Template fault) = template_word fault
fault_word faults.Workers = codes "workers"
fault_word faults.Batch = codes "batch"
fault_word faults.Spent = codes "spent"
fault_word faults.NoDevice = codes "no device"
fault_word faults.PastEnd = codes "past end"
fault_word faults.Range = codes "range"
fault_word faults.TooLong = codes "too long"
fault_word faults.Bind = codes "bind"
fault_word faults.Wire = codes "wire"
fault_word (faults.Session fault) = session_word fault
fault_word (faults.Cases fault) = case_word fault.why
fault_word faults.NoSuchCase = codes "no such case"
fault_word faults.NoDatagram = codes "no datagram"
fault_word faults.OtherClasses = codes "other classes"
fault_word faults.Slices = codes "slices"

-- the place of a fault of bytes, in bytes from 0
abbrev pub place_of : Fault → Option ℕ
place_of (faults.Layout (BadField place)) = Some place
place_of (faults.Layout (Limit place)) = Some place
place_of _ = None

abbrev pub word_with_place : List ℕ → Option ℕ → List ℕ
word_with_place word None = word
word_with_place word (Some place) = word ++ codes " at " ++ decimal place

abbrev pub word_with_cause : List ℕ → Option Cause → List ℕ
word_with_cause word None = word
word_with_cause word (Some cause) = word ++ codes ": " ++ cause_words cause

-- the name of a fault: its word, after the line where it is that of a text or of cases, and with its place or its cause
-- where it has one
abbrev pub fault_name : Fault → List ℕ
fault_name (faults.Text fault) = codes "line " ++ decimal fault.line ++ codes ": " ++ cause_words fault.cause
fault_name (faults.Cases fault) =
    codes "line " ++ decimal fault.line ++ codes ": " ++ word_with_cause (case_word fault.why) (case_cause fault.why)
fault_name fault = word_with_place (fault_word fault) (place_of fault)

-- the line of a fault
abbrev pub fault_line : Fault → List ℕ
fault_line fault = ended_line (codes "fault: " ++ fault_name fault)
