-- The object of a case is read again.
use Rattle.std.proofs.Common.{ℕ, ◌≤◌, List, [], ◌∷◌, ◌++◌, Option, None, Some, codes, map, option_map, arith}
use Rattle.serde_json.specs.Data.{boolean, depth, items_depth, members_depth, string}
use Rattle.serde_json.specs.Read.{max_depth}
use Rattle.serde_json.specs.View.{items_of}
use Rattle.trace_json.specs.Json.{Field, fields_json, number_json}
use Rattle.trace_json.specs.Notes.{if_there}
use Rattle.trace_json.specs.Writing.{Has64Bits, IsReadAgain}
use Rattle.trace_json.proofs.ReadAgain.{read_again}
use Rattle.test_reports.specs.InJson.{came_fields, case_json, difference_fields, holds, line_number}
use Rattle.test_reports.specs.declared.case_report.CaseReport.{CaseReport}
use Rattle.test_reports.specs.declared.case_report.Difference.{Difference}
use Rattle.test_reports.specs.declared.instead.Instead.{Instead}
use Rattle.test_reports.specs.declared.instead.Instead.TheVariants.{Nothing, Came, Refused}

texts_depth : (ts : List (List ℕ)) → items_depth (items_of (map string ts)) ≤ 0
texts_depth [] = omega arith
texts_depth (t ∷ ts) = omega (arith, texts_depth ts)

number_depth : (key : List ℕ) (o : Option ℕ) (fs : List Field) → members_depth (fields_json fs) ≤ 1
    → members_depth (fields_json (if_there key (option_map number_json o) ++ fs)) ≤ 1
number_depth key None fs h = h
number_depth key (Some n) fs h = omega (arith, h)

came_depth : (instead : Instead) → members_depth (fields_json (came_fields instead)) ≤ 1
came_depth Nothing = omega arith
came_depth (Came sent answers) = omega (arith, texts_depth (map (λ a. a.words) answers))
came_depth (Refused line cause) = omega arith

difference_depth : (o : Option Difference) → members_depth (fields_json (difference_fields o)) ≤ 1
difference_depth None = omega arith
difference_depth (Some d) =
    number_depth (codes "line") (line_number d.line) ((codes "stated", string d.stated.now) ∷ came_fields d.instead)
    (omega (arith, came_depth d.instead))

case_depth : (case : CaseReport) → depth (case_json case) ≤ max_depth
unfolding case_json
case_depth case =
    omega (
      arith,
      number_depth (codes "device") case.device
          ((codes "holds", boolean (holds case.difference)) ∷ difference_fields case.difference)
          (omega (arith, difference_depth case.difference)),
    )

pub case_again : (case : CaseReport) → Has64Bits (case_json case) → IsReadAgain (case_json case)
case_again case exact = read_again (case_json case) exact (case_depth case)
