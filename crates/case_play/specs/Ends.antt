-- What is stated of a whole scenario, or of a recorded trace.
use Rattle.std.specs.Prelude.{◌≡◌, ℕ, ◌<◌, ◌⊎◌, Bool, true, false, List, [], length, Option, None, Some, slice_get}
use Rattle.std.specs.Prelude.{MatchOption}
use Rattle.std.specs.List.{flat_map}
use Rattle.byte_layout.specs.declared.fault.LayoutFault.{LayoutFault}
use Rattle.byte_layout.specs.Whole.{HasFault}
use Rattle.scenario_image.specs.Image.{IsImageIn}
use Rattle.scenario_image.specs.Scenario.{Scenario}
use Rattle.trace_file.specs.declared.entry.Entry.{Entry}
use Rattle.trace_file.specs.Layout.{trace_file, IsTraceFile}
use Rattle.fleet_core.specs.Run.{IsRun}
use Rattle.fleet_core.specs.Verdict.{BreaksAt}
use Rattle.fleet_core.specs.Waiting.{waiting_devices}
use Rattle.scenario_words.specs.Words.{ended_line}
use Rattle.scenario_asm.specs.Canonical.{text_of_scenario}
use Rattle.case_text.specs.declared.digit.Digit.{Digit}
use Rattle.case_text.specs.declared.answer.Answer.{Answer}
use Rattle.case_text.specs.declared.item.Item.{Item}
use Rattle.case_text.specs.declared.item.Part.{Part}
use Rattle.case_text.specs.declared.item.Part.TheVariants as parts
use Rattle.case_text.specs.declared.stated.EndStated.{EndStated}
use Rattle.case_text.specs.declared.stated.EndStated.TheVariants as ends
use Rattle.case_text.specs.declared.stated.Stated.{Stated}
use Rattle.case_text.specs.declared.stated.Stated.TheVariants.{Output, End, Verdict, Written}
use Rattle.case_text.specs.declared.stated.VerdictStated.{VerdictStated}
use Rattle.case_text.specs.declared.stated.VerdictStated.TheVariants as verdicts
use Rattle.case_text.specs.declared.stated.WrittenStated.{WrittenStated}
use Rattle.case_text.specs.declared.stated.WrittenStated.TheVariants.{Image, Trace, Text, TextLine}
use Rattle.case_play.specs.declared.answer_place.AnswerPlace.{AnswerPlace}
use Rattle.case_play.specs.Digits.{Matches}
use Rattle.case_play.specs.Faults.{fault_words}

-- the bytes are the image of the scenario, in the version that is written, or the trace file of entries; and these are
-- their digits
abbrev pub IsImageOf : Scenario → List Digit → Type 0
IsImageOf s digits = (bytes : List ℕ) × IsImageIn 2 bytes s × Matches digits bytes

abbrev pub IsTraceOf : List Entry → List Digit → Type 0
IsTraceOf es digits = (bytes : List ℕ) × IsTraceFile bytes es × Matches digits bytes

abbrev pub line_in : Stated → List ℕ
line_in (Written (TextLine text)) = ended_line text
line_in stated = []

-- the lines of a text that are stated below an item
abbrev pub text_in : List Answer → List ℕ
text_in answers = flat_map (λ a. line_in a.stated) answers

-- the run has this number of entries, and these devices wait after them. A text that was read has no fault
abbrev pub EndsSo : Scenario → List Entry → EndStated → Type 0
EndsSo s es (ends.Done count) = (length es ≡ count) × (waiting_devices s es ≡ [])
EndsSo s es (ends.Stalled count devices) = (length es ≡ count) × (waiting_devices s es ≡ devices)
EndsSo s es (ends.Fault line cause) = ⊥

-- the image, the trace file of the run, the canonical text are these, by the answers of an item. A line of the text is
-- part of what `text` states
abbrev pub IsWrittenSo : Scenario → List Entry → List Answer → WrittenStated → Type 0
IsWrittenSo s es answers (Image digits) = IsImageOf s digits
IsWrittenSo s es answers (Trace digits) = IsTraceOf es digits
IsWrittenSo s es answers Text = text_of_scenario s ≡ text_in answers
IsWrittenSo s es answers (TextLine text) = Unit {0}

-- an answer, among those below its item, holds of a scenario and its serial run. Answers on outputs are judged at their
-- item, and the verdict on a recorded trace stands below one
abbrev pub IsEnd : Scenario → List Entry → List Answer → Stated → Type 0
IsEnd s es answers (Output stated) = Unit {0}
IsEnd s es answers (End stated) = EndsSo s es stated
IsEnd s es answers (Verdict stated) = ⊥
IsEnd s es answers (Written stated) = IsWrittenSo s es answers stated

-- ---- a recorded trace

-- entries are a run, or the one at this place is the first that does not follow. Bytes that were read have no fault
abbrev pub IsOfVerdict : Scenario → List Entry → VerdictStated → Type 0
IsOfVerdict s es verdicts.Run = IsRun s es
IsOfVerdict s es (verdicts.NotARun place) = BreaksAt s es place
IsOfVerdict s es (verdicts.Fault words) = ⊥

-- an answer holds of entries that were recorded: the verdict on them does, and all else as of a serial run
abbrev pub IsOfEntries : Scenario → List Entry → List Answer → Stated → Type 0
IsOfEntries s es answers (Verdict stated) = IsOfVerdict s es stated
IsOfEntries s es answers stated = IsEnd s es answers stated

abbrev pub StatesRefusal : LayoutFault → Stated → Type 0
StatesRefusal fault (Verdict (verdicts.Fault words)) = words ≡ fault_words fault
StatesRefusal fault stated = ⊥

-- an answer holds of bytes that were recorded: they are refused, which it states; or they are the trace file of entries
-- of which it holds
abbrev pub IsOfRecorded : Scenario → List ℕ → List Answer → Stated → Type 0
IsOfRecorded s bytes answers stated =
    ((fault : LayoutFault) × HasFault trace_file bytes fault × StatesRefusal fault stated)
    ⊎ ((es : List Entry) × IsTraceFile bytes es × IsOfEntries s es answers stated)

-- the bytes of a recorded trace
abbrev pub recorded_in : Part → Option (List ℕ)
recorded_in (parts.Recorded bytes) = Some bytes
recorded_in part = None

-- below a recorded trace an answer holds of that, and below any other item of the scenario and its serial run
abbrev pub IsEndBelow : Scenario → List Entry → Part → List Answer → Stated → Type 0
IsEndBelow s es part answers stated =
    MatchOption (recorded_in part) (IsEnd s es answers stated) (λ bytes. IsOfRecorded s bytes answers stated)

-- ---- an answer

-- it is about the whole scenario or a recorded trace, and not about outputs or a line of a text
abbrev pub is_of_all : Stated → Bool
is_of_all (Output stated) = false
is_of_all (Written (TextLine text)) = false
is_of_all stated = true

abbrev pub EndHoldsBy : Bool → Bool → Type 0 → Type 0
EndHoldsBy false must_not is = Unit {0}
EndHoldsBy true false is = is
EndHoldsBy true true is = is → ⊥

-- if it is about one of these, it is so, or where it must not come it is not
abbrev pub EndHolds : Scenario → List Entry → Part → List Answer → Answer → Type 0
EndHolds s es part answers answer =
    EndHoldsBy (is_of_all answer.stated) answer.must_not (IsEndBelow s es part answers answer.stated)

-- ---- the first that does not hold

-- each of the answers below an item that is about one of these holds
abbrev pub EndsHold : Scenario → List Entry → Part → List Answer → Type 0
EndsHold s es part answers =
    (i : ℕ) (answer : Answer) → slice_get answers i ≡ Some answer → EndHolds s es part answers answer

-- the one at this place is the first that does not
pub record IsFirstEnd (s : Scenario) (es : List Entry) (part : Part) (answers : List Answer) (place : ℕ) : Type 0 where
  pub answer : Answer
  pub stands : slice_get answers place ≡ Some answer
  pub above : (i : ℕ) (other : Answer) → i < place → slice_get answers i ≡ Some other
      → EndHolds s es part answers other
  pub differs : EndHolds s es part answers answer → ⊥

abbrev pub AreEnds : Scenario → List Entry → Part → List Answer → Option ℕ → Type 0
AreEnds s es part answers None = EndsHold s es part answers
AreEnds s es part answers (Some place) = IsFirstEnd s es part answers place

-- each holds, below each item
abbrev pub AllEndsHold : Scenario → List Entry → List Item → Type 0
AllEndsHold s es items =
    (k : ℕ) (item : Item) → slice_get items k ≡ Some item → EndsHold s es item.part item.answers

-- below the first item with one that does not hold, this is the first of them
pub record IsFirstOfAll (s : Scenario) (es : List Entry) (items : List Item) (at : AnswerPlace) : Type 0 where
  pub item : Item
  pub stands : slice_get items at.item ≡ Some item
  pub above : (k : ℕ) (other : Item) → k < at.item → slice_get items k ≡ Some other
      → EndsHold s es other.part other.answers
  pub first : IsFirstEnd s es item.part item.answers at.answer

abbrev pub AreAllEnds : Scenario → List Entry → List Item → Option AnswerPlace → Type 0
AreAllEnds s es items None = AllEndsHold s es items
AreAllEnds s es items (Some at) = IsFirstOfAll s es items at
