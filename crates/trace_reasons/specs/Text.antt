-- The text of a trace, with the reasons why devices handle what arrives as they do, and why they send what they send by
-- themselves, or end observations.
use Rattle.std.specs.Prelude.{◌≡◌, ℕ, List, [], ◌∷◌, ◌++◌, Some, take, drop, slice_get, if◌then◌else◌}
use Rattle.device_template.specs.Template.{Template}
use Rattle.device_machine.specs.State.{Machine}
use Rattle.device_machine.specs.declared.event.Event.TheVariants.{Recv, Put, Firmware, Tick}
use Rattle.device_machine.specs.declared.output.Output.{Output}
use Rattle.device_reasons.specs.Text.{IsReasonLine}
use Rattle.notification_reasons.specs.Happenings.{AreTickHappenings}
use Rattle.notification_reasons.specs.Reasons.{sends}
use Rattle.notification_reasons.specs.Text.{happening_line}
use Rattle.notification_reasons.specs.declared.reasons.Happening.{Happening}
use Rattle.scenario_image.specs.declared.step.Step.{Step}
use Rattle.scenario_image.specs.declared.step.Step.TheVariants.{Event, Post, Need}
use Rattle.scenario_image.specs.Play.{IsRowOf, state_at}
use Rattle.scenario_image.specs.Scenario.{Scenario}
use Rattle.trace_file.specs.declared.entry.Entry.{Entry}
use Rattle.fleet_core.specs.Run.{step_at}
use Rattle.trace_text.specs.Lines.{all_output_lines, arrival_lines, entry_line, step_words}
use Rattle.trace_text.specs.Seconds.{second_at}
use Rattle.trace_text.specs.Selection.{numbered_entries, selected_entries}
use Rattle.trace_text.specs.declared.selection.Selection.{Selection}

-- the lines why a device in this flat state answers like that in a step: one if a datagram arrives, else none
abbrev pub AreReasonLines : Machine → Step → List ℕ → Type 0
AreReasonLines f (Event (Recv server bytes)) lines = IsReasonLine f server bytes lines
AreReasonLines f (Event (Put path value)) lines = lines ≡ []
AreReasonLines f (Event (Firmware code)) lines = lines ≡ []
AreReasonLines f (Event (Tick seconds)) lines = lines ≡ []
AreReasonLines f (Post group) lines = lines ≡ []
AreReasonLines f (Need group count) lines = lines ≡ []

-- what happens to the observations of a device in this flat state by themselves in a step, each with its reason: in a
-- tick alone
abbrev pub AreHappeningsOf : Machine → Step → List Happening → Type 0
AreHappeningsOf f (Event (Recv server bytes)) happenings = happenings ≡ []
AreHappeningsOf f (Event (Put path value)) happenings = happenings ≡ []
AreHappeningsOf f (Event (Firmware code)) happenings = happenings ≡ []
AreHappeningsOf f (Event (Tick seconds)) happenings = AreTickHappenings f seconds happenings
AreHappeningsOf f (Post group) happenings = happenings ≡ []
AreHappeningsOf f (Need group count) happenings = happenings ≡ []

-- both of step k of a device's row, where the device is in the state after the first k steps
pub record AreReasonsAt (s : Scenario) (device k : ℕ) (lines : List ℕ) (happenings : List Happening) : Type 0 where
  pub class : Template
  pub steps : List Step
  pub row : IsRowOf s device class steps
  pub step : Step
  pub stands : slice_get steps k ≡ Some step
  pub why : AreReasonLines (state_at class steps k) step lines
  pub sent : AreHappeningsOf (state_at class steps k) step happenings

-- how many outputs are for a happening: the datagram that is sent, or none
abbrev pub count_of : Happening → ℕ
count_of h = if sends h.reason then 1 else 0

-- the lines of outputs in their order, and those of what happens: below the output that is for it, or alone
abbrev pub outputs_with : List Output → List Happening → List ℕ
outputs_with outputs [] = all_output_lines outputs
outputs_with outputs (h ∷ hs) =
    all_output_lines (take (count_of h) outputs) ++ (happening_line h ++ outputs_with (drop (count_of h) outputs) hs)

-- the text of an entry, as `entry_text` of `trace_text` has it, with these lines below what an arriving datagram says,
-- and those of what happens among those of the outputs
abbrev pub entry_with : Scenario → ℕ → Entry → List ℕ → List Happening → List ℕ
entry_with s number e lines happenings =
    entry_line number e (second_at s e.device e.step) (step_words (step_at s e.device e.step))
    ++ (arrival_lines (step_at s e.device e.step) ++ (lines ++ outputs_with e.outputs happenings))

-- the text of an entry with the lines of its step's reasons
abbrev pub IsEntryText : Scenario → ℕ → Entry → List ℕ → Type 0
IsEntryText s number e text =
    (lines : List ℕ) × (happenings : List Happening) × AreReasonsAt s e.device e.step lines happenings
    × (text ≡ entry_with s number e lines happenings)

-- what is said of entries with these numbers, one after another
abbrev pub AreSaid : (ℕ → Entry → List ℕ → Type 0) → List (ℕ × Entry) → List ℕ → Type 0
AreSaid Is [] text = text ≡ []
AreSaid Is (p ∷ ps) text =
    (first : List ℕ) × (rest : List ℕ) × Is p.0 p.1 first × AreSaid Is ps rest × (text ≡ first ++ rest)

-- of the selected entries of a trace
abbrev pub AreSelectedSaid : (ℕ → Entry → List ℕ → Type 0) → Selection → List Entry → List ℕ → Type 0
AreSelectedSaid Is sel es text = AreSaid Is (selected_entries sel (numbered_entries 0 es)) text

-- the text of the selected entries of a trace, with reasons
abbrev pub IsReasonedText : Scenario → Selection → List Entry → List ℕ → Type 0
IsReasonedText s sel es text = AreSelectedSaid (IsEntryText s) sel es text
