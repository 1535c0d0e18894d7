-- What is done, put together from its parts.
use Rattle.std.proofs.Common.{ℕ, ◌≡◌, ◌≢◌, List, [], Option, length, map, subst, sym, ap, ◌∙◌}
use Rattle.std.proofs.lemmas.List.{length-map, nil_from_length}
use Rattle.scenario_image.specs.Scenario.{Scenario}
use Rattle.expectations.specs.ExpectedCases.{expected_cases_in}
use Rattle.expectations.specs.declared.expectation.ExpectedCase.{ExpectedCase}
use Rattle.command_files.specs.declared.answer.Answer.{Answer}
use Rattle.test_reports.specs.Answers.{IsReport}
use Rattle.test_reports.specs.Choice.{AreChosen, case_of_file}
use Rattle.test_reports.specs.Reading.{AreRead}
use Rattle.test_reports.specs.Told.{AreEach}
use Rattle.test_reports.specs.declared.case_file.CaseFile.{CaseFile}
use Rattle.test_reports.specs.declared.case_report.CaseReport.{CaseReport}
use Rattle.test_reports.specs.declared.choice.ChosenCase.{ChosenCase}
use Rattle.test_reports.specs.declared.form.ReportForm.{ReportForm}
use Rattle.command_expect.specs.Choice.{HasDevice, cases_of_devices, chosen_cases, devices_of}
use Rattle.command_expect.specs.Expect.{IsExpectDone, IsReportOn, IsSource}
use Rattle.command_expect.specs.Told.{IsToldOn}

pub some_chosen : (only : Option (List ℕ)) (files : List (CaseFile ExpectedCase))
    (cases : List (ChosenCase ExpectedCase)) → AreChosen (λ case. case.title) only files cases → length cases ≢ 0
    → chosen_cases only files ≢ []
some_chosen only files cases chosen some none =
    some (sym (length-map cases case_of_file) ∙ ap length (chosen ∙ none))

pub none_chosen : (only : Option (List ℕ)) (files : List (CaseFile ExpectedCase))
    (cases : List (ChosenCase ExpectedCase)) → AreChosen (λ case. case.title) only files cases → length cases ≡ 0
    → chosen_cases only files ≡ []
none_chosen only files cases chosen none = sym chosen ∙ ap (map case_of_file) (nil_from_length cases none)

pub reported : (only : Option (List ℕ)) (form : ReportForm) (junit_path : Option (List ℕ))
    (files : List (CaseFile ExpectedCase)) (device : Option ℕ) (s : Scenario)
    (cases : List (ChosenCase ExpectedCase)) (all : List CaseReport) (answer : Answer)
    → AreChosen (λ case. case.title) only files cases
    → AreEach (IsToldOn s) (cases_of_devices (map case_of_file cases) (devices_of device s)) all
    → IsReport form junit_path files all answer → IsReportOn only form junit_path files device s answer
reported only form junit_path files device s cases all answer chosen told report =
    record {
      all = all;
      told = subst (λ xs. AreEach (IsToldOn s) (cases_of_devices xs (devices_of device s)) all) chosen told;
      reported = report;
    }

pub expected : (holds : List ℕ → List ℕ → Type 0) (paths : List (List ℕ)) (image : List ℕ) (device : Option ℕ)
    (only : Option (List ℕ)) (form : ReportForm) (junit_path : Option (List ℕ))
    (files : List (CaseFile ExpectedCase)) (s : Scenario) (answer : Answer)
    → AreRead expected_cases_in holds paths files → chosen_cases only files ≢ [] → IsSource holds image s
    → HasDevice device s → IsReportOn only form junit_path files device s answer
    → IsExpectDone holds paths image device only form junit_path answer
expected holds paths image device only form junit_path files s answer read some source has report =
    record {
      files = files;
      read = record { read = read; some = some };
      scenario = s;
      source = source;
      has_device = has;
      reported = report;
    }
