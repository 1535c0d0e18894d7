-- A trace as JSON Lines, with the reasons why devices handle what arrives as they do, why they send what they send by
-- themselves, and which observations end without a datagram.
use Rattle.std.specs.Prelude.{◌≡◌, ℕ, not, List, ◌++◌, filter, length, map, Option, None, Some, slice_get}
use Rattle.device_template.specs.Template.{Template}
use Rattle.device_machine.specs.State.{Machine}
use Rattle.device_machine.specs.declared.event.Event.TheVariants.{Recv, Put, Firmware, Tick}
use Rattle.device_reasons.specs.Reasons.{IsArrivalReason}
use Rattle.device_reasons.specs.Rules.{arrival_rule}
use Rattle.device_reasons.specs.Text.{arrival_reason_text}
use Rattle.device_reasons.specs.declared.arrival.ArrivalReason.{ArrivalReason}
use Rattle.object_defs.specs.Path.{path_text}
use Rattle.notification_reasons.specs.Reasons.{sends}
use Rattle.notification_reasons.specs.Text.{happening_text}
use Rattle.notification_reasons.specs.declared.reasons.Happening.{Happening}
use Rattle.scenario_image.specs.declared.step.Step.{Step}
use Rattle.scenario_image.specs.declared.step.Step.TheVariants.{Event, Post, Need}
use Rattle.scenario_image.specs.Play.{IsRowOf, state_at}
use Rattle.scenario_image.specs.Scenario.{Scenario}
use Rattle.trace_file.specs.declared.entry.Entry.{Entry}
use Rattle.trace_text.specs.declared.selection.Selection.{Selection}
use Rattle.trace_json.specs.Entries.{head_json}
use Rattle.trace_json.specs.Reasons.{SaidEnd, SaidReasons, reasoned_json}
use Rattle.trace_json.specs.Writing.{IsReadAgain, json_line}
use Rattle.trace_reasons.specs.Text.{AreSelectedSaid, AreHappeningsOf}

-- why a device in this flat state answers like that in a step: the number of the rule that decides, if one does, and
-- the words of the reason; neither, if no datagram arrives
abbrev pub IsSaidOfArrival : Machine → Step → Option ℕ → Option (List ℕ) → Type 0
IsSaidOfArrival f (Event (Recv server bytes)) rule why =
    (reason : ArrivalReason) × IsArrivalReason f server bytes reason × (rule ≡ arrival_rule reason)
    × (why ≡ Some (arrival_reason_text reason))
IsSaidOfArrival f (Event (Put path value)) rule why = (rule ≡ None) × (why ≡ None)
IsSaidOfArrival f (Event (Firmware code)) rule why = (rule ≡ None) × (why ≡ None)
IsSaidOfArrival f (Event (Tick seconds)) rule why = (rule ≡ None) × (why ≡ None)
IsSaidOfArrival f (Post group) rule why = (rule ≡ None) × (why ≡ None)
IsSaidOfArrival f (Need group count) rule why = (rule ≡ None) × (why ≡ None)

-- why each datagram is sent, in words
abbrev pub sent_texts : List Happening → List (List ℕ)
sent_texts happenings = map happening_text (filter (λ h. sends h.reason) happenings)

-- an observation that ends without a datagram
abbrev pub end_said : Happening → SaidEnd
end_said h = record { path = path_text h.path; second = h.second; why = happening_text h }

-- those of what happens, in their order
abbrev pub ends_said : List Happening → List SaidEnd
ends_said happenings = map end_said (filter (λ h. not (sends h.reason)) happenings)

-- this is said of a step of a device in this flat state: that, why it sends each datagram that it sends by itself, and
-- which observations end without one
pub record IsSaidOfStep (f : Machine) (step : Step) (said : SaidReasons) : Type 0 where
  pub arrival : IsSaidOfArrival f step said.rule said.why
  pub happenings : List Happening
  pub happen : AreHappeningsOf f step happenings
  pub sent_is : said.sent ≡ sent_texts happenings
  pub ended_is : said.ended ≡ ends_said happenings

-- the same of step k of a device's row, where the device is in the state after the first k steps
pub record IsSaidAt (s : Scenario) (device k : ℕ) (said : SaidReasons) : Type 0 where
  pub class : Template
  pub steps : List Step
  pub row : IsRowOf s device class steps
  pub step : Step
  pub stands : slice_get steps k ≡ Some step
  pub said_is : IsSaidOfStep (state_at class steps k) step said

-- the text of the object of an entry with these reasons, which is read as the object
abbrev pub IsReasonedLine : Scenario → ℕ → Entry → SaidReasons → List ℕ → Type 0
IsReasonedLine s number e said text =
    IsReadAgain (reasoned_json s number e said) × (text ≡ json_line (reasoned_json s number e said))

-- the line of an entry, with the reasons of its step
abbrev pub IsEntryLine : Scenario → ℕ → Entry → List ℕ → Type 0
IsEntryLine s number e text =
    (said : SaidReasons) × IsSaidAt s e.device e.step said × IsReasonedLine s number e said text

-- the line that begins a trace, and the lines of the selected entries in their order
abbrev pub AreReasonedLines : Scenario → Selection → List Entry → List ℕ → Type 0
AreReasonedLines s sel es text =
    (entries : List ℕ) × AreSelectedSaid (IsEntryLine s) sel es entries
    × (text ≡ json_line (head_json (length s.rows) (length es)) ++ entries)

-- ---- for private clauses

-- what is said of a step, by its parts
abbrev pub said_with : Option ℕ → Option (List ℕ) → List Happening → SaidReasons
said_with rule why happenings =
    record { rule = rule; why = why; sent = sent_texts happenings; ended = ends_said happenings }

-- the line of an entry whose step is this one, of a device in this flat state
abbrev pub IsStepLine : Scenario → ℕ → Entry → Machine → Step → List ℕ → Type 0
IsStepLine s number e f step text =
    (said : SaidReasons) × IsSaidOfStep f step said × IsReasonedLine s number e said text
