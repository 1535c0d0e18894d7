-- What `show` and `pcap` came to, put together from its parts.
use Rattle.std.proofs.Common.{ℕ, ◌≡◌, IsTrue, List, [], ◌∷◌, length, inl, inr, refl, subst, sym}
use Rattle.std.specs.String.{string_bytes}
use Rattle.scenario_image.specs.Scenario.{Scenario}
use Rattle.trace_file.specs.declared.entry.Entry.{Entry}
use Rattle.fleet_core.specs.Run.{IsRun}
use Rattle.fleet_core.specs.Verdict.{BreaksAt}
use Rattle.fleet_core.specs.declared.verdict.Verdict.TheVariants as verdicts
use Rattle.trace_text.specs.declared.selection.Selection.{Selection}
use Rattle.trace_text.specs.declared.selection.SelectionFault.{SelectionFault}
use Rattle.trace_text.specs.declared.selection.SelectionFault.TheVariants as selection
use Rattle.trace_text.specs.Selection.{IsSelectable, IsSelectionFault}
use Rattle.trace_json.specs.Entries.{trace_json}
use Rattle.trace_json.specs.Lines.{AreLinesOf}
use Rattle.trace_pcap.specs.declared.fault.PcapFault.{PcapFault}
use Rattle.trace_pcap.specs.declared.fault.PcapFault.TheVariants as pcap
use Rattle.trace_pcap.specs.Packets.{has_long, trace_packets}
use Rattle.udp_capture.specs.Capture.{IsCapture}
use Rattle.command_files.proofs.Built.{check_image, check_trace, judged_none}
use Rattle.command_texts.specs.Selections.{selection_fault}
use Rattle.trace_json.specs.Notes.{verdict_json}
use Rattle.trace_json.specs.Writing.{json_line}
use Rattle.command_traces.specs.Traces.{pcap_fault, IsCapturedAs, IsNoRun, IsNoRunIn, IsPcapDone, IsPcapFault}
use Rattle.command_traces.specs.Traces.{IsPcapRefused, IsRunCaptured, IsRunShown, IsShowDone, IsShowFault}
use Rattle.command_traces.specs.Traces.{IsShowRefused, IsShownAs, IsShownIn, packets_line}
use Rattle.command_traces.specs.declared.form.TraceForm.{TraceForm}
use Rattle.command_traces.specs.declared.form.TraceForm.TheVariants as forms
use Rattle.command_files.specs.Answers.{files_of}
use Rattle.command_files.specs.Loading.{IsImageFault, IsScenarioAt, IsTraceAt, IsTraceFault, RunPaths}
use Rattle.command_files.specs.Verdicts.{verdict_line, verdict_status}
use Rattle.command_files.specs.declared.fault.Fault.{Fault}
use Rattle.command_files.specs.declared.fault.Fault.TheVariants.{Memory}
use Rattle.command_files.specs.declared.answer.Answer.{Answer}
use Rattle.command_files.specs.declared.status.Status.TheVariants.{Done, NotRun}

-- the verdict that entries are no run
pub no_run : (s : Scenario) (es : List Entry) (place : ℕ) (answer : Answer) → BreaksAt s es place
    → string_bytes answer.text ≡ verdict_line (verdicts.NotRun place)
    → answer.status ≡ verdict_status (verdicts.NotRun place) → files_of answer.file ≡ [] → IsNoRun s es answer
no_run s es place answer breaks said ended none =
    record { judged = judged_none s es place answer breaks said ended; no_run = ended; made_is = none }

pub no_run_in_json : (s : Scenario) (es : List Entry) (place : ℕ) (answer : Answer) → BreaksAt s es place
    → string_bytes answer.text ≡ json_line (verdict_json (verdicts.NotRun place)) → answer.status ≡ NotRun
    → files_of answer.file ≡ [] → IsNoRunIn forms.JsonLines s es answer
no_run_in_json s es place answer breaks said ended none =
    record { place = place; breaks = breaks; text_is = said; status_is = ended; made_is = none }

pub no_run_with_reasons : (s : Scenario) (es : List Entry) (place : ℕ) (answer : Answer) → BreaksAt s es place
    → string_bytes answer.text ≡ json_line (verdict_json (verdicts.NotRun place)) → answer.status ≡ NotRun
    → files_of answer.file ≡ [] → IsNoRunIn forms.ReasonedLines s es answer
no_run_with_reasons = no_run_in_json

-- ---- show

pub unshown_run : (form : TraceForm) (sel : Selection) (s : Scenario) (es : List Entry) (answer : Answer)
    → IsNoRunIn form s es answer → IsShownAs form sel answer s es
unshown_run form sel s es answer none = inl none

pub shown_run : (form : TraceForm) (sel : Selection) (s : Scenario) (es : List Entry) (answer : Answer)
    → IsRunShown form sel s es answer → IsShownAs form sel answer s es
shown_run form sel s es answer shown = inr shown

pub run_shown : (form : TraceForm) (sel : Selection) (s : Scenario) (es : List Entry) (answer : Answer) → IsRun s es
    → IsSelectable s sel es → IsShownIn form s sel es (string_bytes answer.text) → answer.status ≡ Done
    → files_of answer.file ≡ [] → IsRunShown form sel s es answer
run_shown form sel s es answer run selectable said ended none =
    record { run = run; selectable = selectable; text_is = said; status_is = ended; made_is = none }

-- JSON Lines are those of the entries that are asked for
pub lines_are : (sel : Selection) (s : Scenario) (es : List Entry) (text : List ℕ)
    → AreLinesOf (trace_json s sel es) text → IsShownIn forms.JsonLines s sel es text
lines_are sel s es text are = are.text_is

pub unselected : (sel : Selection) (s : Scenario) (es : List Entry) (f : SelectionFault) → IsRun s es
    → IsSelectionFault s sel es f → IsShowFault sel (selection_fault f) s es
unselected sel s es selection.NoDevice run h = (run, h)
unselected sel s es selection.PastEnd run h = (run, h)
unselected sel s es selection.Range run h = (run, h)
unselected sel s es selection.Memory run h = tt

pub unshown_memory : (sel : Selection) (s : Scenario) (es : List Entry) (f : Fault) → f ≡ Memory
    → IsShowFault sel f s es
unshown_memory sel s es f same = subst (λ g. IsShowFault sel g s es) (sym same) tt

pub shown_at : (holds : List ℕ → List ℕ → Type 0) (paths : RunPaths) (form : TraceForm) (sel : Selection) (s : Scenario)
    (es : List Entry) (answer : Answer) → IsScenarioAt holds paths.image s → IsTraceAt holds paths.trace es
    → IsShownAs form sel answer s es → IsShowDone holds paths form sel answer
shown_at holds paths form sel s es answer found read shown =
    record { scenario = s; found = found; entries = es; read = read; so = shown }

pub unshown_at : (holds : List ℕ → List ℕ → Type 0) (fails : List ℕ → Type 0) (paths : RunPaths) (sel : Selection)
    (s : Scenario) (es : List Entry) (f : Fault) → IsScenarioAt holds paths.image s → IsTraceAt holds paths.trace es
    → IsShowFault sel f s es → IsShowRefused holds fails paths sel f
unshown_at holds fails paths sel s es f found read h =
    inr (record { scenario = s; found = found; entries = es; read = read; so = h })

pub unshown_image : (holds : List ℕ → List ℕ → Type 0) (fails : List ℕ → Type 0) (paths : RunPaths) (sel : Selection)
    (f : Fault) → IsImageFault holds fails paths.image f → IsShowRefused holds fails paths sel f
unshown_image holds fails paths sel f h = inl (check_image holds fails paths f h)

pub unshown_trace : (holds : List ℕ → List ℕ → Type 0) (fails : List ℕ → Type 0) (paths : RunPaths) (sel : Selection)
    (f : Fault) (s : Scenario) → IsScenarioAt holds paths.image s → IsTraceFault holds fails paths.trace f
    → IsShowRefused holds fails paths sel f
unshown_trace holds fails paths sel f s found h = inl (check_trace holds fails paths f s found h)

-- ---- pcap

pub uncaptured_run : (output : List ℕ) (s : Scenario) (es : List Entry) (answer : Answer) → IsNoRun s es answer
    → IsCapturedAs output answer s es
uncaptured_run output s es answer none = inl none

pub captured_run : (output : List ℕ) (s : Scenario) (es : List Entry) (answer : Answer)
    → IsRunCaptured output s es answer → IsCapturedAs output answer s es
captured_run output s es answer captured = inr captured

pub run_captured : (output bytes : List ℕ) (s : Scenario) (es : List Entry) (answer : Answer) → IsRun s es
    → IsCapture bytes (trace_packets s es)
    → string_bytes answer.text ≡ packets_line (length (trace_packets s es)) → answer.status ≡ Done
    → files_of answer.file ≡ (record { path = output; bytes = bytes }) ∷ [] → IsRunCaptured output s es answer
run_captured output bytes s es answer run capture said ended one =
    record { run = run; bytes = bytes; capture = capture; text_is = said; status_is = ended; made_is = one }

pub unpacked : (s : Scenario) (es : List Entry) (f : PcapFault) → IsRun s es
    → ((f ≡ pcap.TooLong) → IsTrue (has_long s es)) → IsPcapFault (pcap_fault f) s es
unpacked s es pcap.TooLong run long = (run, long refl)
unpacked s es pcap.Memory run long = tt

pub uncaptured_memory : (s : Scenario) (es : List Entry) (f : Fault) → f ≡ Memory → IsPcapFault f s es
uncaptured_memory s es f same = subst (λ g. IsPcapFault g s es) (sym same) tt

pub captured_at : (holds : List ℕ → List ℕ → Type 0) (paths : RunPaths) (output : List ℕ) (s : Scenario)
    (es : List Entry) (answer : Answer) → IsScenarioAt holds paths.image s → IsTraceAt holds paths.trace es
    → IsCapturedAs output answer s es → IsPcapDone holds paths output answer
captured_at holds paths output s es answer found read captured =
    record { scenario = s; found = found; entries = es; read = read; so = captured }

pub uncaptured_at : (holds : List ℕ → List ℕ → Type 0) (fails : List ℕ → Type 0) (paths : RunPaths) (s : Scenario)
    (es : List Entry) (f : Fault) → IsScenarioAt holds paths.image s → IsTraceAt holds paths.trace es
    → IsPcapFault f s es → IsPcapRefused holds fails paths f
uncaptured_at holds fails paths s es f found read h =
    inr (record { scenario = s; found = found; entries = es; read = read; so = h })

pub uncaptured_image : (holds : List ℕ → List ℕ → Type 0) (fails : List ℕ → Type 0) (paths : RunPaths) (f : Fault)
    → IsImageFault holds fails paths.image f → IsPcapRefused holds fails paths f
uncaptured_image holds fails paths f h = inl (check_image holds fails paths f h)

pub uncaptured_trace : (holds : List ℕ → List ℕ → Type 0) (fails : List ℕ → Type 0) (paths : RunPaths) (f : Fault)
    (s : Scenario) → IsScenarioAt holds paths.image s → IsTraceFault holds fails paths.trace f
    → IsPcapRefused holds fails paths f
uncaptured_trace holds fails paths f s found h = inl (check_trace holds fails paths f s found h)
