-- Reports of cases in the form of the Test Anything Protocol, version 14.
use Rattle.std.specs.Prelude.{ℕ, ◌+◌, List, [], ◌∷◌, ◌++◌, Option, None, Some, codes, length}
use Rattle.std.specs.Fmt.{decimal}
use Rattle.std.specs.List.{flat_map}
use Rattle.scenario_words.specs.CauseWords.{cause_words}
use Rattle.scenario_words.specs.Words.{ended_line}
use Rattle.scenario_words.specs.declared.cause.Cause.{Cause}
use Rattle.test_reports.specs.Escaping.{escaped_text, in_quotes}
use Rattle.test_reports.specs.Report.{title_of}
use Rattle.test_reports.specs.declared.case_report.CaseReport.{CaseReport}
use Rattle.test_reports.specs.declared.case_report.Difference.{Difference}
use Rattle.test_reports.specs.declared.escaping.Escape.TheVariants.{Title}
use Rattle.test_reports.specs.declared.instead.CameAnswer.{CameAnswer}
use Rattle.test_reports.specs.declared.instead.Instead.{Instead}
use Rattle.test_reports.specs.declared.instead.Instead.TheVariants.{Nothing, Came, Refused}

-- the version, and the plan of this many test points
abbrev pub plan : ℕ → List ℕ
plan count = ended_line (codes "TAP version 14") ++ ended_line (codes "1.." ++ decimal count)

-- `ok I - TITLE`, `not ok I - TITLE`
unfoldable pub point_line : List ℕ → ℕ → List ℕ → List ℕ
point_line word number title =
    ended_line (word ++ codes " " ++ decimal number ++ codes " - " ++ escaped_text Title title)

-- ---- the block of a case that differs

-- a line of a block in YAML: a name, and a text in quotes
abbrev pub entry : List ℕ → List ℕ → List ℕ
entry name text = ended_line (name ++ in_quotes text)

-- the file of a case, a line of it, and what the line states
unfoldable pub place : List ℕ → ℕ → List ℕ → List ℕ
place path line stated =
    entry (codes "  file: ") path ++ ended_line (codes "  line: " ++ decimal line) ++ entry (codes "  stated: ") stated

-- why the text of a case is refused, in this line below its title
abbrev pub refusal_words : ℕ → Cause → List ℕ
refusal_words line cause = codes "fault line " ++ decimal line ++ codes " " ++ cause_words cause

-- an item of the list of what came
abbrev pub item : List ℕ → List ℕ
item words = entry (codes "    - ") words

abbrev pub answer_item : CameAnswer → List ℕ
answer_item answer = item answer.words

-- what came, where it is known
abbrev pub came_list : Instead → List ℕ
came_list Nothing = []
came_list (Came sent answers) = ended_line (codes "  came:") ++ flat_map answer_item answers
came_list (Refused line cause) = ended_line (codes "  came:") ++ item (refusal_words line cause)

unfoldable pub block : List ℕ → Difference → List ℕ
block path d =
    ended_line (codes "  ---") ++ place path d.line d.stated.now ++ came_list d.instead ++ ended_line (codes "  ...")

abbrev pub block_if : List ℕ → Option Difference → List ℕ
block_if path None = []
block_if path (Some d) = block path d

-- ---- the test points

abbrev pub result_word : Option Difference → List ℕ
result_word None = codes "ok"
result_word (Some d) = codes "not ok"

abbrev pub point : ℕ → CaseReport → List ℕ
point number case =
    point_line (result_word case.difference) number (title_of case) ++ block_if case.path.now case.difference

-- the test points of cases, with the numbers from this one on
abbrev pub points : ℕ → List CaseReport → List ℕ
points number [] = []
points number (case ∷ others) = point number case ++ points (number + 1) others

-- the version, the plan, and a test point for each case
abbrev pub tap_text : List CaseReport → List ℕ
tap_text all = plan (length all) ++ points 1 all
