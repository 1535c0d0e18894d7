-- What is read and what is judged, put together from its parts.
use Rattle.std.proofs.Common.{ℕ, ◌≡◌, List, inl, inr}
use Rattle.std.specs.String.{string_bytes}
use Rattle.scenario_image.specs.Scenario.{Scenario}
use Rattle.scenario_image.specs.Image.{IsImage}
use Rattle.trace_file.specs.declared.entry.Entry.{Entry}
use Rattle.trace_file.specs.Layout.{IsTraceFile}
use Rattle.fleet_core.specs.declared.verdict.Verdict.{Verdict}
use Rattle.fleet_core.specs.Verdict.{Judges}
use Rattle.command_files.specs.Verdicts.{verdict_line, verdict_status, IsJudged, IsVerdictAt}
use Rattle.command_files.specs.Loading.{IsScenarioAt, IsTraceAt, IsImageFault, IsTraceFault, IsCheckRefused, RunPaths}
use Rattle.command_files.specs.declared.fault.Fault.{Fault}
use Rattle.command_files.specs.declared.answer.Answer.{Answer}
use Rattle.fleet_core.specs.Verdict.{BreaksAt}
use Rattle.fleet_core.specs.declared.verdict.Verdict.TheVariants as verdicts

pub scenario_at : (holds : List ℕ → List ℕ → Type 0) (path bytes : List ℕ) (s : Scenario) → holds path bytes
    → IsImage bytes s → IsScenarioAt holds path s
scenario_at holds path bytes s held image = record { bytes = bytes; held = held; image = image }

pub trace_at : (holds : List ℕ → List ℕ → Type 0) (path bytes : List ℕ) (es : List Entry) → holds path bytes
    → IsTraceFile bytes es → IsTraceAt holds path es
trace_at holds path bytes es held file = record { bytes = bytes; held = held; file = file }

pub verdict_at : (holds : List ℕ → List ℕ → Type 0) (path bytes : List ℕ) (s : Scenario) (verdict : Verdict)
    → holds path bytes → (es : List Entry) × IsTraceFile bytes es × Judges s es verdict
    → IsVerdictAt holds path s verdict
verdict_at holds path bytes s verdict held (es, file, right) =
    record { entries = es; read = record { bytes = bytes; held = held; file = file }; judged = right }

pub check_image : (holds : List ℕ → List ℕ → Type 0) (fails : List ℕ → Type 0) (paths : RunPaths) (f : Fault)
    → IsImageFault holds fails paths.image f → IsCheckRefused holds fails paths f
check_image holds fails paths f h = inl h

pub check_trace : (holds : List ℕ → List ℕ → Type 0) (fails : List ℕ → Type 0) (paths : RunPaths) (f : Fault)
    (s : Scenario) → IsScenarioAt holds paths.image s → IsTraceFault holds fails paths.trace f
    → IsCheckRefused holds fails paths f
check_trace holds fails paths f s found h = inr (record { scenario = s; found = found; fault = h })

-- the verdict that entries are no run
pub judged_none : (s : Scenario) (es : List Entry) (place : ℕ) (answer : Answer) → BreaksAt s es place
    → string_bytes answer.text ≡ verdict_line (verdicts.NotRun place)
    → answer.status ≡ verdict_status (verdicts.NotRun place) → IsJudged s es answer
judged_none s es place answer breaks said ended =
    record { verdict = verdicts.NotRun place; judged = breaks; text_is = said; status_is = ended }
