-- What the program answers to its words about the trace of a run: `show` and `pcap`.
use Rattle.std.specs.Prelude.{⊤, ℕ, ◌≡◌, ◌⊎◌, IsTrue, List, [], ◌∷◌, ◌++◌, length, codes}
use Rattle.std.specs.Fmt.{decimal}
use Rattle.std.specs.String.{string_bytes}
use Rattle.scenario_image.specs.Scenario.{Scenario}
use Rattle.trace_file.specs.declared.entry.Entry.{Entry}
use Rattle.fleet_core.specs.Run.{IsRun}
use Rattle.fleet_core.specs.Verdict.{BreaksAt}
use Rattle.fleet_core.specs.declared.verdict.Verdict.TheVariants as verdicts
use Rattle.trace_text.specs.declared.selection.Selection.{Selection}
use Rattle.trace_text.specs.declared.selection.SelectionFault.TheVariants as selection
use Rattle.trace_text.specs.Selection.{IsSelectable, IsSelectionFault, selected_text}
use Rattle.trace_reasons.specs.Objects.{AreReasonedLines}
use Rattle.trace_reasons.specs.Text.{IsReasonedText}
use Rattle.trace_json.specs.Entries.{trace_json}
use Rattle.trace_json.specs.Lines.{json_lines}
use Rattle.trace_json.specs.Notes.{verdict_json}
use Rattle.trace_json.specs.Writing.{json_line}
use Rattle.trace_pcap.specs.declared.fault.PcapFault.{PcapFault}
use Rattle.trace_pcap.specs.declared.fault.PcapFault.TheVariants as pcap
use Rattle.trace_pcap.specs.Packets.{has_long, trace_packets}
use Rattle.udp_capture.specs.Capture.{IsCapture}
use Rattle.scenario_words.specs.Words.{ended_line}
use Rattle.command_traces.specs.declared.form.TraceForm.{TraceForm}
use Rattle.command_traces.specs.declared.form.TraceForm.TheVariants as forms
use Rattle.command_files.specs.Answers.{files_of}
use Rattle.command_files.specs.Loading.{IsCheckRefused, IsScenarioAt, IsTraceAt, RunPaths}
use Rattle.command_files.specs.Verdicts.{IsJudged}
use Rattle.command_files.specs.declared.answer.Answer.{Answer}
use Rattle.command_files.specs.declared.fault.Fault.{Fault}
use Rattle.command_files.specs.declared.fault.Fault.TheVariants as faults
use Rattle.command_files.specs.declared.status.Status.TheVariants.{Done, NotRun}

-- the files at the paths are a scenario's image and a trace file, and this holds of the scenario and the entries
pub record IsOverTrace (holds : List ℕ → List ℕ → Type 0) (paths : RunPaths) (over : Scenario → List Entry → Type 0)
    : Type 0 where
  pub scenario : Scenario
  pub found : IsScenarioAt holds paths.image scenario
  pub entries : List Entry
  pub read : IsTraceAt holds paths.trace entries
  pub so : over scenario entries

-- the entries are not a run, which is answered as `check` answers it
pub record IsNoRun (s : Scenario) (es : List Entry) (answer : Answer) : Type 0 where
  pub judged : IsJudged s es answer
  pub no_run : answer.status ≡ NotRun
  pub made_is : files_of answer.file ≡ []

-- the same as an object in a line: the least place from which on they are none
pub record IsNoRunInJson (s : Scenario) (es : List Entry) (answer : Answer) : Type 0 where
  pub place : ℕ
  pub breaks : BreaksAt s es place
  pub text_is : string_bytes answer.text ≡ json_line (verdict_json (verdicts.NotRun place))
  pub status_is : answer.status ≡ NotRun
  pub made_is : files_of answer.file ≡ []

-- ---- `show IMAGE TRACE [--device N] [--from N] [--to N] [--json] [--why]`

-- the entries are not a run, which is said in words or, where JSON is asked for, as an object
abbrev pub IsNoRunIn : TraceForm → Scenario → List Entry → Answer → Type 0
IsNoRunIn forms.Text s es answer = IsNoRun s es answer
IsNoRunIn forms.Reasons s es answer = IsNoRun s es answer
IsNoRunIn forms.JsonLines s es answer = IsNoRunInJson s es answer
IsNoRunIn forms.ReasonedLines s es answer = IsNoRunInJson s es answer

-- the entries that are asked for, in this form: their text, or an object for each of them in a line of its own; each
-- also with the reasons why devices handle what arrives as they do
abbrev pub IsShownIn : TraceForm → Scenario → Selection → List Entry → List ℕ → Type 0
IsShownIn forms.Text s sel es text = text ≡ selected_text s sel es
IsShownIn forms.Reasons s sel es text = IsReasonedText s sel es text
IsShownIn forms.JsonLines s sel es text = text ≡ json_lines (trace_json s sel es)
IsShownIn forms.ReasonedLines s sel es text = AreReasonedLines s sel es text

-- the entries are a run, and those that are asked for are printed
pub record IsRunShown (form : TraceForm) (sel : Selection) (s : Scenario) (es : List Entry) (answer : Answer)
    : Type 0 where
  pub run : IsRun s es
  pub selectable : IsSelectable s sel es
  pub text_is : IsShownIn form s sel es (string_bytes answer.text)
  pub status_is : answer.status ≡ Done
  pub made_is : files_of answer.file ≡ []

abbrev pub IsShownAs : TraceForm → Selection → Answer → Scenario → List Entry → Type 0
IsShownAs form sel answer s es = IsNoRunIn form s es answer ⊎ IsRunShown form sel s es answer

abbrev pub IsShowDone : (List ℕ → List ℕ → Type 0) → RunPaths → TraceForm → Selection → Answer → Type 0
IsShowDone holds paths form sel answer = IsOverTrace holds paths (IsShownAs form sel answer)

-- the entries are a run, and the scenario has no such device, or the run no entry of the first number, or the numbers
-- are not in order, the first of these; or no memory was left
abbrev pub IsShowFault : Selection → Fault → Scenario → List Entry → Type 0
IsShowFault sel faults.NoDevice s es = IsRun s es × IsSelectionFault s sel es selection.NoDevice
IsShowFault sel faults.PastEnd s es = IsRun s es × IsSelectionFault s sel es selection.PastEnd
IsShowFault sel faults.Range s es = IsRun s es × IsSelectionFault s sel es selection.Range
IsShowFault sel faults.Memory s es = ⊤
IsShowFault sel _ s es = ⊥

-- first the image is to blame, then the trace file, and then what is asked for
abbrev pub IsShowRefused : (List ℕ → List ℕ → Type 0) → (List ℕ → Type 0) → RunPaths → Selection → Fault → Type 0
IsShowRefused holds fails paths sel fault =
    IsCheckRefused holds fails paths fault ⊎ IsOverTrace holds paths (IsShowFault sel fault)

-- ---- `pcap IMAGE TRACE OUT`

-- `ok N packets`
abbrev pub packets_line : ℕ → List ℕ
packets_line count = ended_line (codes "ok " ++ decimal count ++ codes " packets")

-- the entries are a run, the capture of its packets is made, and how many there are is printed
pub record IsRunCaptured (output : List ℕ) (s : Scenario) (es : List Entry) (answer : Answer) : Type 0 where
  pub run : IsRun s es
  pub bytes : List ℕ
  pub capture : IsCapture bytes (trace_packets s es)
  pub text_is : string_bytes answer.text ≡ packets_line (length (trace_packets s es))
  pub status_is : answer.status ≡ Done
  pub made_is : files_of answer.file ≡ (record { path = output; bytes = bytes }) ∷ []

abbrev pub IsCapturedAs : List ℕ → Answer → Scenario → List Entry → Type 0
IsCapturedAs output answer s es = IsNoRun s es answer ⊎ IsRunCaptured output s es answer

abbrev pub IsPcapDone : (List ℕ → List ℕ → Type 0) → RunPaths → List ℕ → Answer → Type 0
IsPcapDone holds paths output answer = IsOverTrace holds paths (IsCapturedAs output answer)

-- the entries are a run, and it has a datagram that no packet carries; or no memory was left
abbrev pub IsPcapFault : Fault → Scenario → List Entry → Type 0
IsPcapFault faults.TooLong s es = IsRun s es × IsTrue (has_long s es)
IsPcapFault faults.Memory s es = ⊤
IsPcapFault _ s es = ⊥

-- first the image is to blame, then the trace file, and then a datagram of the run
abbrev pub IsPcapRefused : (List ℕ → List ℕ → Type 0) → (List ℕ → Type 0) → RunPaths → Fault → Type 0
IsPcapRefused holds fails paths fault =
    IsCheckRefused holds fails paths fault ⊎ IsOverTrace holds paths (IsPcapFault fault)

-- the fault of entries that got no capture
abbrev pub pcap_fault : PcapFault → Fault
pcap_fault pcap.TooLong = faults.TooLong
pcap_fault pcap.Memory = faults.Memory
