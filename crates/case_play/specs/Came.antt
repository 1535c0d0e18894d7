-- What came where something else is stated.
use Rattle.std.specs.Prelude.{◌≡◌, ℕ, ◌⊎◌, List, length, MatchOption}
use Rattle.byte_layout.specs.declared.fault.LayoutFault.{LayoutFault}
use Rattle.byte_layout.specs.Whole.{HasFault}
use Rattle.device_machine.specs.declared.output.Output.{Output}
use Rattle.device_machine.specs.State.{Machine}
use Rattle.scenario_image.specs.Image.{IsImageIn}
use Rattle.scenario_image.specs.Scenario.{Scenario}
use Rattle.trace_file.specs.declared.entry.Entry.{Entry}
use Rattle.trace_file.specs.Layout.{trace_file, IsTraceFile}
use Rattle.fleet_core.specs.Run.{IsRun}
use Rattle.fleet_core.specs.Verdict.{BreaksAt}
use Rattle.fleet_core.specs.Waiting.{waiting_devices}
use Rattle.scenario_asm.specs.Canonical.{text_of_scenario}
use Rattle.case_text.specs.declared.item.Part.{Part}
use Rattle.case_text.specs.declared.item.Part.TheVariants as parts
use Rattle.case_text.specs.declared.question.Question.{Question}
use Rattle.case_text.specs.declared.question.Question.TheVariants as asks
use Rattle.case_text.specs.declared.stated.Stated.{Stated}
use Rattle.case_text.specs.declared.stated.Stated.TheVariants.{Verdict, Written}
use Rattle.case_text.specs.declared.stated.WrittenStated.TheVariants.{Image, Trace, Text}
use Rattle.case_play.specs.declared.came.Came.{Came}
use Rattle.case_play.specs.declared.came.Came.TheVariants as came
use Rattle.case_play.specs.Ends.{recorded_in}
use Rattle.case_play.specs.Faults.{fault_words}
use Rattle.case_play.specs.Holds.{IsAnswered}
use Rattle.case_play.specs.Questions.{IsAnswer}
use Rattle.case_play.specs.Spots.{Spot, IsAsked, PutsOut}

-- ---- of an item

-- a question has a device to ask
abbrev pub HasAsked : Scenario → Spot → Part → Type 0
HasAsked s spot (parts.Ask must_not question) = (f : Machine) × IsAsked s spot f
HasAsked s spot part = Unit {0}

-- an item can be at a spot
pub record CanBe (s : Scenario) (spot : Spot) (part : Part) : Type 0 where
  pub outputs : List Output
  pub put_out : PutsOut s spot part outputs
  pub asked : HasAsked s spot part

-- this flat state answers so to what is asked: that would be the answer to state
abbrev pub RepliesWith : Question → Machine → Came → Type 0
RepliesWith (asks.Value path stated) f (came.Value value) = IsAnswer (asks.Value path value) f
RepliesWith (asks.Clock stated) f (came.Clock second) = IsAnswer (asks.Clock second) f
RepliesWith (asks.Observations stated) f (came.Observations count) = IsAnswer (asks.Observations count) f
RepliesWith (asks.Due stated) f (came.Due second) = IsAnswer (asks.Due second) f
RepliesWith question f x = ⊥

abbrev pub Replies : Scenario → Spot → Part → Came → Type 0
Replies s spot (parts.Ask must_not question) x = (f : Machine) × IsAsked s spot f × RepliesWith question f x
Replies s spot part x = ⊥

-- what came of an item: where it can't be, just that; what it outputs, where a question has its answer; and else what
-- the device answers
abbrev pub CameThere : Scenario → Spot → Part → Came → Type 0
CameThere s spot part x =
    ((CanBe s spot part → ⊥) × (x ≡ came.Nowhere))
    ⊎ (((outputs : List Output) × PutsOut s spot part outputs × IsAnswered s spot part × (x ≡ came.Outputs outputs))
    ⊎ ((IsAnswered s spot part → ⊥) × Replies s spot part x))

-- ---- of a whole scenario

-- it is the image, in the version that is written
abbrev pub ImageCame : Scenario → Came → Type 0
ImageCame s (came.Image bytes) = IsImageIn 2 bytes s
ImageCame s x = ⊥

-- it is the trace file of entries, or they have none
abbrev pub TraceCame : List Entry → Came → Type 0
TraceCame es (came.Trace bytes) = IsTraceFile bytes es
TraceCame es came.TooLarge = (bytes : List ℕ) → IsTraceFile bytes es → ⊥
TraceCame es x = ⊥

-- it is the canonical text
abbrev pub TextCame : Scenario → Came → Type 0
TextCame s (came.Text text) = text ≡ text_of_scenario s
TextCame s x = ⊥

-- it is how many entries there are, and which devices wait after them
abbrev pub EndCame : Scenario → List Entry → Came → Type 0
EndCame s es (came.Run entries devices) = (entries ≡ length es) × (devices ≡ waiting_devices s es)
EndCame s es x = ⊥

-- what a scenario and its run have of the kind that is stated: an image, a trace file, a text; and else how the run
-- ends
abbrev pub CameInstead : Scenario → List Entry → Stated → Came → Type 0
CameInstead s es (Written (Image digits)) x = ImageCame s x
CameInstead s es (Written (Trace digits)) x = TraceCame es x
CameInstead s es (Written Text) x = TextCame s x
CameInstead s es stated x = EndCame s es x

-- ---- of a recorded trace

-- whether the entries are a run
abbrev pub VerdictCame : Scenario → List Entry → Came → Type 0
VerdictCame s es came.IsRun = IsRun s es
VerdictCame s es (came.NotARun place) = BreaksAt s es place
VerdictCame s es x = ⊥

-- the verdict on the entries where one is stated, and all else as of a serial run
abbrev pub CameOfEntries : Scenario → List Entry → Stated → Came → Type 0
CameOfEntries s es (Verdict stated) x = VerdictCame s es x
CameOfEntries s es stated x = CameInstead s es stated x

-- why the bytes are refused, or what comes of the entries of which they are the trace file
abbrev pub CameOfRecorded : Scenario → List ℕ → Stated → Came → Type 0
CameOfRecorded s bytes stated x =
    ((fault : LayoutFault) × HasFault trace_file bytes fault × (x ≡ came.Fault (fault_words fault)))
    ⊎ ((es : List Entry) × IsTraceFile bytes es × CameOfEntries s es stated x)

-- what came where this is stated below an item: of a recorded trace, or of the scenario and its serial run
abbrev pub CameBelow : Scenario → List Entry → Part → Stated → Came → Type 0
CameBelow s es part stated x =
    MatchOption (recorded_in part) (CameInstead s es stated x) (λ bytes. CameOfRecorded s bytes stated x)
