-- What is told of a case that was judged for a device.
use Rattle.std.specs.Prelude.{ℕ, ◌≡◌, List, Option, None, Some, slice_get}
use Rattle.scenario_image.specs.Scenario.{Scenario}
use Rattle.expectations.specs.Arrivals.{arrivals_of, end_of_row}
use Rattle.expectations.specs.Laying.{IsVerdict}
use Rattle.expectations.specs.declared.expectation.ExpectedCase.{ExpectedCase}
use Rattle.expectations.specs.declared.expectation.Expectation.{Expectation}
use Rattle.expectations.specs.declared.verdict.Verdict.{Verdict}
use Rattle.expectations.specs.declared.verdict.Verdict.TheVariants.{Met, Missed}
use Rattle.test_reports.specs.Choice.{CaseOfFile}
use Rattle.test_reports.specs.Report.{line_at}
use Rattle.test_reports.specs.Told.{Told, ToldDifference, told_case, told_of}
use Rattle.test_reports.specs.declared.case_report.CaseReport.{CaseReport}
use Rattle.test_reports.specs.declared.instead.Instead.TheVariants.{Nothing}
use Rattle.command_expect.specs.Choice.{CaseOfDevice}

-- the line of its file in which an expectation stands; else this line
abbrev pub line_or : ℕ → Option Expectation → ℕ
line_or line None = line
line_or line (Some expectation) = expectation.line

-- the line of the file that is not met by this verdict on a case, if the case is not met
abbrev pub missed_line : ExpectedCase → Verdict → Option ℕ
missed_line case Met = None
missed_line case (Missed place) = Some (line_or case.line (slice_get case.lines place))

-- a case differs in the line that is not met; nothing is told of what came
abbrev pub difference_at : CaseOfFile ExpectedCase → Option ℕ → Option ToldDifference
difference_at of None = None
difference_at of (Some line) = Some (record { line = line; stated = line_at of.text line; instead = Nothing })

abbrev pub told_by : CaseOfDevice → Verdict → Told
told_by of verdict =
    told_case of.1 of.1.case.title (Some of.0) (difference_at of.1 (missed_line of.1.case verdict))

-- the right verdict on a case is told: that of the datagrams that the row of its device receives, up to the row's end
pub record IsToldOn (s : Scenario) (of : CaseOfDevice) (report : CaseReport) : Type 0 where
  pub verdict : Verdict
  pub right : IsVerdict verdict of.1.case.lines (arrivals_of s of.0) (end_of_row s of.0)
  pub told : told_of report ≡ told_by of verdict
