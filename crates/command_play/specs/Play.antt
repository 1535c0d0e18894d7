-- What `play FILE [--device N] [--from N] [--to N] [--json] [--why]` comes to.
use Rattle.std.specs.Prelude.{⊤, ℕ, ◌≡◌, ◌⊎◌, List, [], ◌++◌, length}
use Rattle.std.specs.String.{string_bytes}
use Rattle.scenario_image.specs.Scenario.{Scenario}
use Rattle.trace_file.specs.declared.entry.Entry.{Entry}
use Rattle.fleet_core.specs.Run.{IsSerial}
use Rattle.fleet_core.specs.Waiting.{waiting_devices}
use Rattle.trace_text.specs.declared.selection.Selection.{Selection}
use Rattle.trace_text.specs.declared.selection.SelectionFault.TheVariants as selection
use Rattle.trace_text.specs.Selection.{IsSelectable, IsSelectionFault, selected_text}
use Rattle.trace_reasons.specs.Objects.{AreReasonedLines}
use Rattle.trace_reasons.specs.Text.{IsReasonedText}
use Rattle.trace_json.specs.Answers.{end_json}
use Rattle.trace_json.specs.Entries.{trace_json}
use Rattle.trace_json.specs.Lines.{json_lines}
use Rattle.trace_json.specs.Writing.{json_line}
use Rattle.command_files.specs.Answers.{files_of}
use Rattle.command_files.specs.Fault.{IsReadingFault}
use Rattle.command_files.specs.Loading.{IsHeld}
use Rattle.command_files.specs.declared.answer.Answer.{Answer}
use Rattle.command_files.specs.declared.fault.Fault.{Fault}
use Rattle.command_files.specs.declared.fault.Fault.TheVariants as faults
use Rattle.command_files.specs.declared.status.Status.TheVariants.{Done}
use Rattle.command_sources.specs.Sources.{IsNoScenario, IsScenarioOf}
use Rattle.command_texts.specs.Endings.{end_line}
use Rattle.command_play.specs.declared.form.PlayForm.{PlayForm}
use Rattle.command_play.specs.declared.form.PlayForm.TheVariants as forms

-- ---- its serial run

-- the text of the entries that are asked for; with `--json` an object for each of them, in a line of its own; with
-- `--why` either with the reasons why devices handle what arrives as they do
abbrev pub IsToldAs : PlayForm → Scenario → Selection → List Entry → List ℕ → Type 0
IsToldAs forms.Text s sel es text = text ≡ selected_text s sel es
IsToldAs forms.Reasons s sel es text = IsReasonedText s sel es text
IsToldAs forms.JsonLines s sel es text = text ≡ json_lines (trace_json s sel es)
IsToldAs forms.ReasonedLines s sel es text = AreReasonedLines s sel es text

-- the line of how a run of this many entries ended, after which these devices are not at the end of their rows
abbrev pub ending : PlayForm → ℕ → List ℕ → List ℕ
ending forms.Text count waiting = end_line count waiting
ending forms.Reasons count waiting = end_line count waiting
ending forms.JsonLines count waiting = json_line (end_json count waiting)
ending forms.ReasonedLines count waiting = json_line (end_json count waiting)

-- the text of the entries that are asked for, and then the line of the run's end; no file is made
pub record IsPlayed (form : PlayForm) (sel : Selection) (s : Scenario) (answer : Answer) : Type 0 where
  pub entries : List Entry
  pub serial : IsSerial s entries
  pub selectable : IsSelectable s sel entries
  pub shown : List ℕ
  pub told : IsToldAs form s sel entries shown
  pub text_is : string_bytes answer.text ≡ shown ++ ending form (length entries) (waiting_devices s entries)
  pub status_is : answer.status ≡ Done
  pub made_is : files_of answer.file ≡ []

-- this holds of the entries of the serial run
pub record IsOverRun (s : Scenario) (over : List Entry → Type 0) : Type 0 where
  pub entries : List Entry
  pub serial : IsSerial s entries
  pub so : over entries

-- the scenario has no such device, or its serial run no entry of the first number, or the numbers are not in order, the
-- first of these; or no memory was left
abbrev pub IsUnplayed : Selection → Scenario → Fault → Type 0
IsUnplayed sel s faults.NoDevice = IsOverRun s (λ es. IsSelectionFault s sel es selection.NoDevice)
IsUnplayed sel s faults.PastEnd = IsOverRun s (λ es. IsSelectionFault s sel es selection.PastEnd)
IsUnplayed sel s faults.Range = IsOverRun s (λ es. IsSelectionFault s sel es selection.Range)
IsUnplayed sel s faults.Memory = ⊤
IsUnplayed sel s _ = ⊥

-- ---- the command

-- the file at the path is a scenario, of which this holds
pub record IsOverScenario (holds : List ℕ → List ℕ → Type 0) (path : List ℕ) (over : Scenario → Type 0) : Type 0 where
  pub scenario : Scenario
  pub found : IsHeld holds path (λ bytes. IsScenarioOf bytes scenario)
  pub so : over scenario

abbrev pub IsPlayDone : (List ℕ → List ℕ → Type 0) → List ℕ → PlayForm → Selection → Answer → Type 0
IsPlayDone holds path form sel answer = IsOverScenario holds path (λ s. IsPlayed form sel s answer)

-- the file could not be read, or is not a scenario; then it is what is asked for that is to blame
abbrev pub IsPlayFault : (List ℕ → List ℕ → Type 0) → (List ℕ → Type 0) → List ℕ → Selection → Fault → Type 0
IsPlayFault holds fails path sel fault =
    IsReadingFault (fails path) fault ⊎ (IsHeld holds path (λ bytes. IsNoScenario bytes fault)
    ⊎ IsOverScenario holds path (λ s. IsUnplayed sel s fault))
