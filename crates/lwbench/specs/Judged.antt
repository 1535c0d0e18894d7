-- How a session of several devices is judged by what servers have to send.
use Rattle.std.specs.Prelude.{ℕ, ◌≡◌, ◌⊎◌, Bool, true, false, List, [], ◌∷◌, Option, None, Some, option_map}
use Rattle.std.specs.Prelude.{option_to_list}
use Rattle.std.specs.Io.KnownBytes.{Appends}
use Rattle.std.specs.String.{string_bytes}
use Rattle.command_line.specs.declared.fleet_words.AskedFleet.{AskedFleet}
use Rattle.scenario_image.specs.Scenario.{Scenario}
use Rattle.test_reports.specs.Reading.{AreRead, IsRefusalOf}
use Rattle.command_expect.specs.Expect.{IsReportOn}
use Rattle.expectations.specs.ExpectedCases.{expected_cases_in}
use Rattle.expectations.specs.declared.expectation.ExpectedCase.{ExpectedCase}
use Rattle.test_reports.specs.declared.case_file.CaseFile.{CaseFile}
use Rattle.command_files.specs.Answers.{IsUndelivered, files_of}
use Rattle.command_files.specs.Files.{Grows}
use Rattle.command_files.specs.World.{FilesKnown, IsSilent, StreamFaults, World}
use Rattle.command_files.specs.declared.answer.Answer.{Answer}
use Rattle.command_files.specs.declared.fault.Fault.{Fault}
use Rattle.command_files.specs.declared.fault.Fault.TheVariants.{Memory}
use Rattle.command_files.specs.declared.status.Status.{Status}
use Rattle.command_files.specs.declared.status.Status.TheVariants as ends
use Rattle.test_reports.specs.declared.form.ReportForm.{ReportForm}
use Rattle.test_reports.specs.declared.form.ReportForm.TheVariants as report_forms

-- the path of the file that says what servers have to send, if there is one
abbrev pub goal_paths : AskedFleet → List (List ℕ)
goal_paths fleet = option_to_list (option_map (λ p. p.now) fleet.verdict.file)

-- how a verdict is told
abbrev pub verdict_form : Bool → ReportForm
verdict_form false = report_forms.Text
verdict_form true = report_forms.JsonLines

-- the report of what was saved, in which these files say what servers have to send to each device
abbrev pub IsVerdict : List (CaseFile ExpectedCase) → Bool → Option (List ℕ) → Scenario → Answer → Type 0
IsVerdict goal json junit saved answer = IsReportOn None (verdict_form json) junit goal None saved answer

-- a session that ends with a status of its own keeps it; otherwise its verdict gives it
abbrev pub judged_status : Status → Status → Status
judged_status ends.Done verdict = verdict
judged_status held verdict = held

-- nothing was made and nothing told
pub record IsUntouched (before after : World) : Type 0 where
  pub none_made : after.made ≡ before.made
  pub silent : IsSilent before.streams after.streams

-- the report was told, and its file made, if it has one
pub record IsReported (goal : List (CaseFile ExpectedCase)) (json : Bool) (junit : Option (List ℕ)) (saved : Scenario)
    (before after : World) (held status : Status) : Type 0 where
  pub answer : Answer
  pub report : IsVerdict goal json junit saved answer
  pub made : Grows before.made after.made (files_of answer.file)
  pub printed : Appends before.streams.output after.streams.output (string_bytes answer.text)
  pub quiet : after.streams.errors ≡ before.streams.errors
  pub judged : status ≡ judged_status held answer.status

-- a session of which this was saved is judged, where there is something that servers have to send
abbrev pub IsJudgedBy : List (CaseFile ExpectedCase) → Bool → Option (List ℕ) → Option Scenario → World → World → Status
    → Status
    → Type 0
IsJudgedBy (file ∷ files) json junit (Some saved) before after held status =
    IsReported (file ∷ files) json junit saved before after held status
IsJudgedBy goal json junit saved before after held status = IsUntouched before after × (status ≡ held)

abbrev pub IsJudged : List (CaseFile ExpectedCase) → AskedFleet → Option Scenario → World → World → Status → Status
    → Type 0
IsJudged goal fleet saved before after held status =
    IsJudgedBy goal fleet.json (option_map (λ p. p.now) fleet.verdict.junit) saved before after held status

-- no memory was left for the report, or it could not be told
pub record IsUnreported (refuses : List ℕ → Type 0) (faults : StreamFaults) (goal : List (CaseFile ExpectedCase))
    (json : Bool)
    (junit : Option (List ℕ)) (saved : Scenario) (before after : World) (fault : Fault) : Type 0 where
  pub answer : Answer
  pub report : IsVerdict goal json junit saved answer
  pub undelivered : IsUndelivered refuses faults before after answer fault
  pub quiet : after.streams.errors ≡ before.streams.errors

abbrev pub IsUnjudgedBy : (List ℕ → Type 0) → StreamFaults → List (CaseFile ExpectedCase) → Bool → Option (List ℕ)
    → Option Scenario
    → World → World → Fault → Type 0
IsUnjudgedBy refuses faults goal json junit None before after fault = ⊥
IsUnjudgedBy refuses faults goal json junit (Some saved) before after fault =
    ((fault ≡ Memory) × IsUntouched before after)
    ⊎ IsUnreported refuses faults goal json junit saved before after fault

abbrev pub IsUnjudged : (List ℕ → Type 0) → StreamFaults → List (CaseFile ExpectedCase) → AskedFleet → Option Scenario
    → World
    → World
    → Fault → Type 0
IsUnjudged refuses faults goal fleet saved before after fault =
    IsUnjudgedBy refuses faults goal fleet.json (option_map (λ p. p.now) fleet.verdict.junit) saved before after fault

-- the file that says what servers have to send is refused, before a session begins
pub record IsGoalRefused (files : FilesKnown) (before after : World) (fleet : AskedFleet) (fault : Fault) : Type 0
  where
    pub about : Option (List ℕ)
    pub why : IsRefusalOf expected_cases_in files.holds files.fails (goal_paths fleet) about fault
    pub untouched : IsUntouched before after
