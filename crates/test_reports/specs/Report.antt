-- Reports of cases as text: those that differ, and how many there are.
use Rattle.std.specs.Prelude.{ℕ, zero, suc, Bool, true, false, List, [], ◌∷◌, ◌++◌, Option, None, Some, codes, filter}
use Rattle.std.specs.Prelude.{is_some, length, slice_get}
use Rattle.std.specs.Fmt.{decimal}
use Rattle.std.specs.List.{flat_map}
use Rattle.scenario_words.specs.CauseWords.{cause_words}
use Rattle.scenario_words.specs.Words.{ended_line, lines}
use Rattle.test_reports.specs.declared.case_report.CaseReport.{CaseReport}
use Rattle.test_reports.specs.declared.case_report.Difference.{Difference}
use Rattle.test_reports.specs.declared.instead.CameAnswer.{CameAnswer}
use Rattle.test_reports.specs.declared.instead.Instead.{Instead}
use Rattle.test_reports.specs.declared.instead.Instead.TheVariants.{Nothing, Came, Refused}

abbrev pub or_empty : Option (List ℕ) → List ℕ
or_empty None = []
or_empty (Some line) = line

-- the line of a text that has this number, counted from 1; an empty one where there is none
abbrev pub line_at : List ℕ → ℕ → List ℕ
line_at text zero = []
line_at text (suc place) = or_empty (slice_get (lines text) place)

-- ---- a case

-- `TITLE, device D`
abbrev pub device_title : List ℕ → ℕ → List ℕ
device_title title device = title ++ codes ", device " ++ decimal device

-- the title, with the device that the case was judged for, if there is one
abbrev pub titled : List ℕ → Option ℕ → List ℕ
titled title None = title
titled title (Some device) = device_title title device

abbrev pub title_of : CaseReport → List ℕ
title_of case = titled case.title.now case.device

-- the title of a case; where the cases are those of several files, the path of its file before it
abbrev pub heading : Bool → List ℕ → List ℕ → List ℕ
heading true path title = path ++ codes ": " ++ title
heading false path title = title

-- `line N`, and why the text of the case is refused there, if it is
abbrev pub line_words : ℕ → Instead → List ℕ
line_words line (Refused below cause) = codes "line " ++ decimal line ++ codes ": " ++ cause_words cause
line_words line instead = codes "line " ++ decimal line

-- what a datagram says, if there is one
abbrev pub says_line : Option (List ℕ) → List ℕ
says_line None = []
says_line (Some words) = ended_line (codes "    " ++ words)

-- an answer that came; below a datagram stands what it says
abbrev pub answer_lines : CameAnswer → List ℕ
answer_lines answer = ended_line (codes "came " ++ answer.words) ++ says_line answer.says

-- below the line that differs what the datagram says that it states, and what came
abbrev pub instead_lines : Instead → List ℕ
instead_lines Nothing = []
instead_lines (Came sent answers) = says_line sent ++ flat_map answer_lines answers
instead_lines (Refused below cause) = []

-- `TITLE, line N`, this line of the file, and what is told below it
abbrev pub difference_lines : Bool → CaseReport → Difference → List ℕ
difference_lines several case d =
    heading several case.path.now (title_of case)
    ++ (ended_line (codes ", " ++ line_words d.line d.instead) ++ ended_line d.stated.now) ++ instead_lines d.instead

abbrev pub difference_if : Bool → CaseReport → Option Difference → List ℕ
difference_if several case None = []
difference_if several case (Some d) = difference_lines several case d

-- what is printed of a case: nothing where it does not differ
abbrev pub difference : Bool → CaseReport → List ℕ
difference several case = difference_if several case case.difference

-- ---- all of them

-- `C cases, D differ`
abbrev pub count_line : ℕ → ℕ → List ℕ
count_line cases differing = ended_line (decimal cases ++ codes " cases, " ++ decimal differing ++ codes " differ")

abbrev pub count_differing : List CaseReport → ℕ
count_differing all = length (filter (λ case. is_some case.difference) all)

-- those that differ, in their order, and how many there are
abbrev pub report : Bool → List CaseReport → List ℕ
report several all = flat_map (difference several) all ++ count_line (length all) (count_differing all)
