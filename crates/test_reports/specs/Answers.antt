-- What is answered of cases: the text, the file and the status.
use Rattle.std.specs.Prelude.{◌≡◌, ℕ, zero, suc, nat_lt, Bool, List, [], ◌∷◌, Option, None, Some, length}
use Rattle.std.specs.String.{string_bytes}
use Rattle.command_files.specs.Answers.{files_of}
use Rattle.command_files.specs.Files.{MadeFile}
use Rattle.command_files.specs.declared.answer.Answer.{Answer}
use Rattle.command_files.specs.declared.status.Status.{Status}
use Rattle.command_files.specs.declared.status.Status.TheVariants.{Done, NotRun}
use Rattle.test_reports.specs.InJson.{json_report}
use Rattle.test_reports.specs.Junit.{junit_text}
use Rattle.test_reports.specs.Report.{count_differing, report}
use Rattle.test_reports.specs.Tap.{tap_text}
use Rattle.test_reports.specs.declared.case_file.CaseFile.{CaseFile}
use Rattle.test_reports.specs.declared.case_report.CaseReport.{CaseReport}
use Rattle.test_reports.specs.declared.form.ReportForm.{ReportForm}
use Rattle.test_reports.specs.declared.form.ReportForm.TheVariants as forms

-- there is more than one file
abbrev pub are_several : {C : Type 0} → List (CaseFile C) → Bool
are_several files = nat_lt 1 (length files)

-- what is printed: the report, the form of TAP, or JSON Lines
abbrev pub printed_report : ReportForm → Bool → List CaseReport → List ℕ
printed_report forms.Text several all = report several all
printed_report forms.Tap several all = tap_text all
printed_report forms.JsonLines several all = json_report all

-- the JUnit report at this path, if there is one
abbrev pub junit_files : {C : Type 0} → Option (List ℕ) → List (CaseFile C) → List CaseReport → List MadeFile
junit_files None files all = []
junit_files (Some path) files all = record { path = path; bytes = junit_text (are_several files) files all } ∷ []

-- the status by how many cases differ
abbrev pub status_of : ℕ → Status
status_of zero = Done
status_of (suc n) = NotRun

-- this is printed and made of what is told of the cases of these files, and the program ends so
pub record IsReport {C : Type 0} (form : ReportForm) (junit_path : Option (List ℕ)) (files : List (CaseFile C))
    (all : List CaseReport) (answer : Answer) : Type 0 where
  pub text_is : string_bytes answer.text ≡ printed_report form (are_several files) all
  pub status_is : answer.status ≡ status_of (count_differing all)
  pub made_is : files_of answer.file ≡ junit_files junit_path files all
