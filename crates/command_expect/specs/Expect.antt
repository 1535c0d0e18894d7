-- What `test FILE .. --on IMAGE [--device D] [--only WORDS] [--tap | --json] [--junit FILE]` comes to, and what is
-- refused.
use Rattle.std.specs.Prelude.{⊤, ℕ, ◌≡◌, ◌≢◌, ◌⊎◌, List, [], Option}
use Rattle.scenario_image.specs.Scenario.{Scenario}
use Rattle.expectations.specs.ExpectedCases.{expected_cases_in}
use Rattle.expectations.specs.declared.expectation.ExpectedCase.{ExpectedCase}
use Rattle.test_reports.specs.Answers.{IsReport}
use Rattle.test_reports.specs.Reading.{AreRead, IsFirstRefused}
use Rattle.test_reports.specs.Told.{AreEach}
use Rattle.test_reports.specs.declared.case_file.CaseFile.{CaseFile}
use Rattle.test_reports.specs.declared.case_report.CaseReport.{CaseReport}
use Rattle.test_reports.specs.declared.form.ReportForm.{ReportForm}
use Rattle.command_files.specs.Fault.{IsReadingFault}
use Rattle.command_files.specs.Loading.{IsHeld}
use Rattle.command_files.specs.declared.answer.Answer.{Answer}
use Rattle.command_files.specs.declared.fault.Fault.{Fault}
use Rattle.command_files.specs.declared.fault.Fault.TheVariants as faults
use Rattle.command_sources.specs.Sources.{IsNoScenario, IsScenarioOf}
use Rattle.command_expect.specs.Choice.{HasDevice, cases_of_devices, chosen_cases, devices_of}
use Rattle.command_expect.specs.Told.{IsToldOn}

-- the files were read, and some of their cases are chosen
pub record AreReadWith (holds : List ℕ → List ℕ → Type 0) (paths : List (List ℕ)) (only : Option (List ℕ))
    (files : List (CaseFile ExpectedCase)) : Type 0 where
  pub read : AreRead expected_cases_in holds paths files
  pub some : chosen_cases only files ≢ []

-- the file at this path is the image of the scenario, or a text of it
abbrev pub IsSource : (List ℕ → List ℕ → Type 0) → List ℕ → Scenario → Type 0
IsSource holds path s = IsHeld holds path (λ bytes. IsScenarioOf bytes s)

-- the report of the cases that are chosen: each was judged for each device that is asked for, in their order
pub record IsReportOn (only : Option (List ℕ)) (form : ReportForm) (junit_path : Option (List ℕ))
    (files : List (CaseFile ExpectedCase)) (device : Option ℕ) (s : Scenario) (answer : Answer) : Type 0 where
  pub all : List CaseReport
  pub told : AreEach (IsToldOn s) (cases_of_devices (chosen_cases only files) (devices_of device s)) all
  pub reported : IsReport form junit_path files all answer

-- the report of the cases for the devices of the scenario
pub record IsExpectDone (holds : List ℕ → List ℕ → Type 0) (paths : List (List ℕ)) (image : List ℕ)
    (device : Option ℕ) (only : Option (List ℕ)) (form : ReportForm) (junit_path : Option (List ℕ)) (answer : Answer)
    : Type 0 where
  pub files : List (CaseFile ExpectedCase)
  pub read : AreReadWith holds paths only files
  pub scenario : Scenario
  pub source : IsSource holds image scenario
  pub has_device : HasDevice device scenario
  pub reported : IsReportOn only form junit_path files device scenario answer

-- ---- what is refused, in the order in which it is

-- the files were read, and none of their cases is chosen
pub record HasNoSuchCase (holds : List ℕ → List ℕ → Type 0) (paths : List (List ℕ)) (only : Option (List ℕ))
    (fault : Fault) : Type 0 where
  pub files : List (CaseFile ExpectedCase)
  pub read : AreRead expected_cases_in holds paths files
  pub none : chosen_cases only files ≡ []
  pub fault_is : fault ≡ faults.NoSuchCase

-- cases are chosen, and the scenario's file could not be read, or is neither an image nor a text
pub record HasNoSource (holds : List ℕ → List ℕ → Type 0) (fails : List ℕ → Type 0) (paths : List (List ℕ))
    (image : List ℕ) (only : Option (List ℕ)) (fault : Fault) : Type 0 where
  pub files : List (CaseFile ExpectedCase)
  pub read : AreReadWith holds paths only files
  pub refused : IsReadingFault (fails image) fault ⊎ IsHeld holds image (λ bytes. IsNoScenario bytes fault)

-- cases are chosen and the scenario was read, which has no device of the number that is asked for
pub record LacksDevice (holds : List ℕ → List ℕ → Type 0) (paths : List (List ℕ)) (image : List ℕ)
    (device : Option ℕ) (only : Option (List ℕ)) (fault : Fault) : Type 0 where
  pub files : List (CaseFile ExpectedCase)
  pub read : AreReadWith holds paths only files
  pub scenario : Scenario
  pub source : IsSource holds image scenario
  pub missing : HasDevice device scenario → ⊥
  pub fault_is : fault ≡ faults.NoDevice

-- no memory was left; or one of the files is refused, no case is chosen, there is no scenario, or it lacks the device
abbrev pub IsExpectFault : (List ℕ → List ℕ → Type 0) → (List ℕ → Type 0) → List (List ℕ) → List ℕ → Option ℕ
    → Option (List ℕ) → Fault → Type 0
IsExpectFault holds fails paths image device only faults.Memory = ⊤
IsExpectFault holds fails paths image device only fault =
    ((about : Option (List ℕ)) × IsFirstRefused expected_cases_in holds fails paths about fault)
    ⊎ (HasNoSuchCase holds paths only fault ⊎ (HasNoSource holds fails paths image only fault
    ⊎ LacksDevice holds paths image device only fault))
