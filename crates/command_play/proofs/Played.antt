-- What `play` came to, put together from its parts.
use Rattle.std.proofs.Common.{ℕ, ◌≡◌, ◌⊎◌, List, [], ◌++◌, length, inl, inr, subst, sym}
use Rattle.std.specs.String.{string_bytes}
use Rattle.scenario_image.specs.Scenario.{Scenario}
use Rattle.trace_file.specs.declared.entry.Entry.{Entry}
use Rattle.fleet_core.specs.Run.{IsSerial}
use Rattle.fleet_core.specs.Waiting.{waiting_devices}
use Rattle.trace_text.specs.declared.selection.Selection.{Selection}
use Rattle.trace_text.specs.declared.selection.SelectionFault.{SelectionFault}
use Rattle.trace_text.specs.declared.selection.SelectionFault.TheVariants as selection
use Rattle.trace_text.specs.Selection.{IsSelectable, IsSelectionFault}
use Rattle.command_files.specs.Answers.{files_of}
use Rattle.command_files.specs.Fault.{IsReadingFault}
use Rattle.command_files.specs.Loading.{IsHeld}
use Rattle.command_files.specs.declared.answer.Answer.{Answer}
use Rattle.command_files.specs.declared.fault.Fault.{Fault}
use Rattle.command_files.specs.declared.fault.Fault.TheVariants.{Memory}
use Rattle.command_files.specs.declared.status.Status.TheVariants.{Done}
use Rattle.trace_json.specs.Entries.{trace_json}
use Rattle.trace_json.specs.Lines.{AreLinesOf}
use Rattle.command_texts.specs.Selections.{selection_fault}
use Rattle.command_sources.specs.Sources.{IsNoScenario, IsScenarioOf}
use Rattle.command_play.specs.Play.{IsPlayDone, IsPlayFault, IsPlayed, IsToldAs, IsUnplayed, ending}
use Rattle.command_play.specs.declared.form.PlayForm.{PlayForm}
use Rattle.command_play.specs.declared.form.PlayForm.TheVariants as forms

-- ---- its serial run

pub unselected : (sel : Selection) (s : Scenario) (es : List Entry) (f : SelectionFault) → IsSerial s es
    → IsSelectionFault s sel es f → IsUnplayed sel s (selection_fault f)
unselected sel s es selection.NoDevice serial h = record { entries = es; serial = serial; so = h }
unselected sel s es selection.PastEnd serial h = record { entries = es; serial = serial; so = h }
unselected sel s es selection.Range serial h = record { entries = es; serial = serial; so = h }
unselected sel s es selection.Memory serial h = tt

pub no_memory : (sel : Selection) (s : Scenario) (f : Fault) → f ≡ Memory → IsUnplayed sel s f
no_memory sel s f same = subst (λ g. IsUnplayed sel s g) (sym same) tt

-- JSON Lines are those of the entries that are asked for
pub lines_are : (sel : Selection) (s : Scenario) (es : List Entry) (text : List ℕ)
    → AreLinesOf (trace_json s sel es) text → IsToldAs forms.JsonLines s sel es text
lines_are sel s es text are = are.text_is

pub played : (form : PlayForm) (sel : Selection) (s : Scenario) (es : List Entry) (shown : List ℕ) (answer : Answer)
    → IsSerial s es → IsSelectable s sel es → IsToldAs form s sel es shown
    → string_bytes answer.text ≡ shown ++ ending form (length es) (waiting_devices s es)
    → answer.status ≡ Done → files_of answer.file ≡ [] → IsPlayed form sel s answer
played form sel s es shown answer serial selectable told said ended none = record {
  entries = es;
  serial = serial;
  selectable = selectable;
  shown = shown;
  told = told;
  text_is = said;
  status_is = ended;
  made_is = none;
}

-- ---- the command

pub played_at : (holds : List ℕ → List ℕ → Type 0) (path : List ℕ) (form : PlayForm) (sel : Selection) (s : Scenario)
    (answer : Answer) → IsHeld holds path (λ bytes. IsScenarioOf bytes s) → IsPlayed form sel s answer
    → IsPlayDone holds path form sel answer
played_at holds path form sel s answer found h = record { scenario = s; found = found; so = h }

pub refused_file : (holds : List ℕ → List ℕ → Type 0) (fails : List ℕ → Type 0) (path : List ℕ) (sel : Selection)
    (f : Fault) → IsReadingFault (fails path) f ⊎ IsHeld holds path (λ bytes. IsNoScenario bytes f)
    → IsPlayFault holds fails path sel f
refused_file holds fails path sel f (inl h) = inl h
refused_file holds fails path sel f (inr h) = inr (inl h)

pub unplayed_at : (holds : List ℕ → List ℕ → Type 0) (fails : List ℕ → Type 0) (path : List ℕ) (sel : Selection)
    (s : Scenario) (f : Fault) → IsHeld holds path (λ bytes. IsScenarioOf bytes s) → IsUnplayed sel s f
    → IsPlayFault holds fails path sel f
unplayed_at holds fails path sel s f found h = inr (inr (record { scenario = s; found = found; so = h }))
