-- A report, put together from its parts.
use Rattle.std.proofs.Common.{ℕ, ◌≡◌, List, Option}
use Rattle.std.specs.String.{string_bytes}
use Rattle.command_files.specs.Answers.{files_of}
use Rattle.command_files.specs.declared.answer.Answer.{Answer}
use Rattle.test_reports.specs.Answers.{IsReport, are_several, junit_files, printed_report, status_of}
use Rattle.test_reports.specs.Report.{count_differing}
use Rattle.test_reports.specs.declared.case_file.CaseFile.{CaseFile}
use Rattle.test_reports.specs.declared.case_report.CaseReport.{CaseReport}
use Rattle.test_reports.specs.declared.form.ReportForm.{ReportForm}

pub reported : {C : Type 0} (form : ReportForm) (junit_path : Option (List ℕ)) (files : List (CaseFile C))
    (all : List CaseReport) (answer : Answer)
    → string_bytes answer.text ≡ printed_report form (are_several files) all
    → answer.status ≡ status_of (count_differing all) → files_of answer.file ≡ junit_files junit_path files all
    → IsReport form junit_path files all answer
reported form junit_path files all answer said ended made =
    record { text_is = said; status_is = ended; made_is = made }
