-- What is answered to `test`, and what is refused.
use Rattle.std.specs.Prelude.{⊤, ℕ, ◌≡◌, ◌≢◌, List, [], Option}
use Rattle.std.specs.List.{flat_map}
use Rattle.std.specs.String.{string_bytes}
use Rattle.scenario_words.specs.Words.{ended_line}
use Rattle.case_text.specs.Cases.{cases_in}
use Rattle.case_text.specs.Checks.{title_of_case}
use Rattle.case_text.specs.declared.case.Case.{Case}
use Rattle.command_files.specs.Answers.{files_of}
use Rattle.command_files.specs.declared.answer.Answer.{Answer}
use Rattle.command_files.specs.declared.fault.Fault.{Fault}
use Rattle.command_files.specs.declared.fault.Fault.TheVariants.{Memory, NoSuchCase}
use Rattle.command_files.specs.declared.status.Status.TheVariants.{Done}
use Rattle.test_reports.specs.Answers.{IsReport}
use Rattle.test_reports.specs.Choice.{CaseOfFile, choice}
use Rattle.test_reports.specs.Reading.{AreRead, IsFirstRefused}
use Rattle.test_reports.specs.Told.{AreEach}
use Rattle.test_reports.specs.declared.case_file.CaseFile.{CaseFile}
use Rattle.test_reports.specs.declared.case_report.CaseReport.{CaseReport}
use Rattle.test_reports.specs.declared.form.ReportForm.{ReportForm}
use Rattle.command_test.specs.Told.{IsToldOf}

-- the cases of files that are chosen by their titles, in their order
abbrev pub chosen_cases : Option (List ℕ) → List (CaseFile Case) → List (CaseOfFile Case)
chosen_cases only files = choice title_of_case only files

-- the files at these paths were read, and some of their cases are chosen
pub record AreReadWith (holds : List ℕ → List ℕ → Type 0) (paths : List (List ℕ)) (only : Option (List ℕ))
    (files : List (CaseFile Case)) : Type 0 where
  pub read : AreRead cases_in holds paths files
  pub some : chosen_cases only files ≢ []

-- the titles of cases, a line for each
abbrev pub titles_text : List (CaseOfFile Case) → List ℕ
titles_text cases = flat_map (λ of. ended_line (title_of_case of.case)) cases

-- `test FILE .. --list`: the titles of the cases; no file is made
pub record IsTitlesDone (holds : List ℕ → List ℕ → Type 0) (paths : List (List ℕ)) (only : Option (List ℕ))
    (answer : Answer) : Type 0 where
  pub files : List (CaseFile Case)
  pub read : AreReadWith holds paths only files
  pub text_is : string_bytes answer.text ≡ titles_text (chosen_cases only files)
  pub status_is : answer.status ≡ Done
  pub made_is : files_of answer.file ≡ []

-- `test FILE ..`: the report of the cases, each of which is played, in their order
pub record IsTestDone (holds : List ℕ → List ℕ → Type 0) (paths : List (List ℕ)) (only : Option (List ℕ))
    (form : ReportForm) (junit_path : Option (List ℕ)) (answer : Answer) : Type 0 where
  pub files : List (CaseFile Case)
  pub read : AreReadWith holds paths only files
  pub all : List CaseReport
  pub told : AreEach IsToldOf (chosen_cases only files) all
  pub reported : IsReport form junit_path files all answer

-- the files were read, and none of their cases is chosen
pub record HasNoSuchCase (holds : List ℕ → List ℕ → Type 0) (paths : List (List ℕ)) (only : Option (List ℕ))
    : Type 0 where
  pub files : List (CaseFile Case)
  pub read : AreRead cases_in holds paths files
  pub none : chosen_cases only files ≡ []

-- no memory was left, or no case is chosen, or one of the files is refused
abbrev pub IsTestFault : (List ℕ → List ℕ → Type 0) → (List ℕ → Type 0) → List (List ℕ) → Option (List ℕ) → Fault
    → Type 0
IsTestFault holds fails paths only Memory = ⊤
IsTestFault holds fails paths only NoSuchCase = HasNoSuchCase holds paths only
IsTestFault holds fails paths only fault =
    (about : Option (List ℕ)) × IsFirstRefused cases_in holds fails paths about fault
