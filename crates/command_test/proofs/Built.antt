-- What is done, put together from its parts.
use Rattle.std.proofs.Common.{ℕ, ◌≡◌, ◌≢◌, List, [], Option, length, map, sym, subst, ap, ◌∙◌}
use Rattle.std.proofs.lemmas.List.{length-map}
use Rattle.std.specs.String.{string_bytes}
use Rattle.case_text.specs.Cases.{cases_in}
use Rattle.case_text.specs.Checks.{title_of_case}
use Rattle.case_text.specs.declared.case.Case.{Case}
use Rattle.command_files.specs.Answers.{files_of}
use Rattle.command_files.specs.declared.answer.Answer.{Answer}
use Rattle.command_files.specs.declared.status.Status.TheVariants.{Done}
use Rattle.test_reports.specs.Answers.{IsReport}
use Rattle.test_reports.specs.Choice.{AreChosen, case_of_file}
use Rattle.test_reports.specs.Reading.{AreRead}
use Rattle.test_reports.specs.Told.{AreEach}
use Rattle.test_reports.specs.declared.case_file.CaseFile.{CaseFile}
use Rattle.test_reports.specs.declared.case_report.CaseReport.{CaseReport}
use Rattle.test_reports.specs.declared.choice.ChosenCase.{ChosenCase}
use Rattle.test_reports.specs.declared.form.ReportForm.{ReportForm}
use Rattle.command_test.specs.Jobs.{IsTestDone, IsTitlesDone, chosen_cases, titles_text}
use Rattle.command_test.specs.Told.{IsToldOf}

-- some case is chosen
some_chosen : (only : Option (List ℕ)) (files : List (CaseFile Case)) (cases : List (ChosenCase Case))
    → AreChosen title_of_case only files cases → length cases ≢ 0 → chosen_cases only files ≢ []
some_chosen only files cases chosen some none =
    some (sym (length-map cases case_of_file) ∙ ap length (chosen ∙ none))

pub listed : (holds : List ℕ → List ℕ → Type 0) (paths : List (List ℕ)) (only : Option (List ℕ))
    (files : List (CaseFile Case)) (cases : List (ChosenCase Case)) (answer : Answer)
    → AreRead cases_in holds paths files → AreChosen title_of_case only files cases → length cases ≢ 0
    → string_bytes answer.text ≡ titles_text (map case_of_file cases) → answer.status ≡ Done
    → files_of answer.file ≡ [] → IsTitlesDone holds paths only answer
listed holds paths only files cases answer read chosen some said ended none =
    record {
      files = files;
      read = record { read = read; some = some_chosen only files cases chosen some };
      text_is = said ∙ ap titles_text chosen;
      status_is = ended;
      made_is = none;
    }

pub tested : (holds : List ℕ → List ℕ → Type 0) (paths : List (List ℕ)) (only : Option (List ℕ)) (form : ReportForm)
    (junit_path : Option (List ℕ)) (files : List (CaseFile Case)) (cases : List (ChosenCase Case))
    (all : List CaseReport) (answer : Answer) → AreRead cases_in holds paths files
    → AreChosen title_of_case only files cases → length cases ≢ 0 → AreEach IsToldOf (map case_of_file cases) all
    → IsReport form junit_path files all answer → IsTestDone holds paths only form junit_path answer
tested holds paths only form junit_path files cases all answer read chosen some told report =
    record {
      files = files;
      read = record { read = read; some = some_chosen only files cases chosen some };
      all = all;
      told = subst (λ xs. AreEach IsToldOf xs all) chosen told;
      reported = report;
    }
