-- Reports of cases as JSON Lines: an object for each case, in a line of its own, and one that counts them.
use Rattle.std.specs.Prelude.{ℕ, ◌^◌, nat_lt, Bool, true, false, List, [], ◌∷◌, ◌++◌, Option, None, Some, codes, length}
use Rattle.std.specs.Prelude.{if◌then◌else◌, map, option_map}
use Rattle.serde_json.specs.Data.{Data, boolean, string}
use Rattle.trace_json.specs.Answers.{counts_json, texts_json}
use Rattle.trace_json.specs.Json.{Field, number_json, object_json}
use Rattle.trace_json.specs.Lines.{json_lines}
use Rattle.trace_json.specs.Notes.{if_there}
use Rattle.trace_json.specs.Writing.{json_line}
use Rattle.test_reports.specs.Report.{count_differing}
use Rattle.test_reports.specs.Tap.{refusal_words}
use Rattle.test_reports.specs.declared.case_report.CaseReport.{CaseReport}
use Rattle.test_reports.specs.declared.case_report.Difference.{Difference}
use Rattle.test_reports.specs.declared.instead.Instead.{Instead}
use Rattle.test_reports.specs.declared.instead.Instead.TheVariants.{Nothing, Came, Refused}

-- the number of a line, where it has 64 bits, as that of each line of a file has
abbrev pub line_number : ℕ → Option ℕ
line_number n = if nat_lt n (2 ^ 64) then Some n else None

-- the words of each answer that came, where it is known what came
abbrev pub came_fields : Instead → List Field
came_fields Nothing = []
came_fields (Came sent answers) = (codes "came", texts_json (map (λ a. a.words) answers)) ∷ []
came_fields (Refused line cause) = (codes "came", texts_json (refusal_words line cause ∷ [])) ∷ []

-- the line that differs, what it states, and what came
abbrev pub difference_fields : Option Difference → List Field
difference_fields None = []
difference_fields (Some d) =
    if_there (codes "line") (option_map number_json (line_number d.line))
    ++ ((codes "stated", string d.stated.now) ∷ came_fields d.instead)

abbrev pub holds : Option Difference → Bool
holds None = true
holds (Some d) = false

-- the object of a case, with the device that it was judged for, if there is one
unfoldable pub case_json : CaseReport → Data
case_json case =
    object_json
    ((codes "title", string case.title.now) ∷ (codes "file", string case.path.now)
    ∷ (if_there (codes "device") (option_map number_json case.device)
    ++ ((codes "holds", boolean (holds case.difference)) ∷ difference_fields case.difference)))

-- a line for each case, and one of how many there are and how many differ
abbrev pub json_report : List CaseReport → List ℕ
json_report all = json_lines (map case_json all) ++ json_line (counts_json (length all) (count_differing all))
