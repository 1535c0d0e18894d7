-- What is told of a case that was played.
use Rattle.std.specs.Prelude.{◌≡◌, ℕ, ◌+◌, Option, None, Some, option_map}
use Rattle.case_text.specs.Checks.{line_of_case, title_of_case}
use Rattle.case_text.specs.declared.case.Case.{Case}
use Rattle.case_play.specs.Verdicts.{IsCaseVerdict}
use Rattle.case_play.specs.declared.verdict.Verdict.{Verdict}
use Rattle.case_play.specs.declared.verdict.Verdict.TheVariants as verdicts
use Rattle.test_reports.specs.Choice.{CaseOfFile}
use Rattle.test_reports.specs.Report.{line_at}
use Rattle.test_reports.specs.Told.{Told, ToldDifference, told_case, told_of}
use Rattle.test_reports.specs.declared.case_report.CaseReport.{CaseReport}
use Rattle.test_reports.specs.declared.instead.Instead.{Instead}
use Rattle.test_reports.specs.declared.instead.Instead.TheVariants.{Came, Refused}
use Rattle.command_test.specs.Came.{answers_of, said}
use Rattle.command_test.specs.Stated.{sent_at}

-- a case differs in this line of its file, and this is told of it
abbrev pub differs_at : CaseOfFile Case → ℕ → Instead → ToldDifference
differs_at of line instead = record { line = line; stated = line_at of.text line; instead = instead }

-- what differs by the verdict on a case, if it does not pass: what came in the place of what the line states; or why
-- the text is refused, in a line that the verdict counts below the case's title
abbrev pub difference_by : CaseOfFile Case → Verdict → Option ToldDifference
difference_by of verdicts.Passes = None
difference_by of (verdicts.Differs line came) =
    Some (differs_at of line (Came (option_map said (sent_at of.case line)) (answers_of came)))
difference_by of (verdicts.Refused line cause) =
    Some (differs_at of (line_of_case of.case + line) (Refused line cause))

abbrev pub told_by : CaseOfFile Case → Verdict → Told
told_by of verdict = told_case of (title_of_case of.case) None (difference_by of verdict)

-- the right verdict on a case is told
pub record IsToldOf (of : CaseOfFile Case) (report : CaseReport) : Type 0 where
  pub verdict : Verdict
  pub right : IsCaseVerdict of.case verdict
  pub told : told_of report ≡ told_by of verdict
