-- What is told of cases that are played, one after another.
use Rattle.std.proofs.Common.{◌≡◌, ℕ, ◌+◌, ◌≤◌, List, [], ◌∷◌, ◌++◌, Bor, Option, None, Some, length, map, slice_get}
use Rattle.std.proofs.Common.{take, option_map, ap, ap₂, subst, sym, ◌∙◌}
use Rattle.std.proofs.lemmas.List.{map-append, take_all, take_more}
use Rattle.std.proofs.lemmas.Option.{get_or_from_slice_get, slice_get_within}
use Rattle.case_text.specs.Checks.{title_of_case}
use Rattle.case_text.specs.declared.case.Case.{Case}
use Rattle.case_play.specs.Verdicts.{IsCaseVerdict}
use Rattle.case_play.specs.declared.verdict.Verdict.{Verdict}
use Rattle.test_reports.specs.Choice.{case_of_file}
use Rattle.test_reports.proofs.Each.{each_more}
use Rattle.test_reports.specs.Told.{AreEach, ToldDifference, told_case, told_difference}
use Rattle.test_reports.specs.declared.case_report.CaseReport.{CaseReport}
use Rattle.test_reports.specs.declared.case_report.Difference.{Difference}
use Rattle.test_reports.specs.declared.choice.ChosenCase.{ChosenCase}
use Rattle.command_test.specs.Told.{IsToldOf, difference_by}

pub told : (chosen : ChosenCase Case) (verdict : Verdict) (title : Bor (List ℕ)) (difference : Option Difference)
    → IsCaseVerdict chosen.case.now verdict → title.now ≡ title_of_case chosen.case.now
    → option_map told_difference difference ≡ difference_by (case_of_file chosen) verdict
    → IsToldOf (case_of_file chosen)
    (record { file = chosen.file; path = chosen.path; title = title; device = None; difference = difference })
told chosen verdict title difference right named differs =
    record {
      verdict = verdict;
      right = right;
      told = ap₂ (λ (t : List ℕ) (d : Option ToldDifference). told_case (case_of_file chosen) t None d) named differs;
    }

pub none_yet : (cases : List (ChosenCase Case)) (all : List CaseReport) → all ≡ []
    → AreEach IsToldOf (map case_of_file (take 0 cases)) all
none_yet cases all none = subst (AreEach IsToldOf []) (sym none) tt

-- one case more
pub one_more : (cases : List (ChosenCase Case)) (i : ℕ) (chosen : ChosenCase Case) (old new : List CaseReport)
    (report : CaseReport) → AreEach IsToldOf (map case_of_file (take i cases)) old → slice_get cases i ≡ Some chosen
    → IsToldOf (case_of_file chosen) report → new ≡ old ++ report ∷ []
    → AreEach IsToldOf (map case_of_file (take (i + 1) cases)) new
one_more cases i chosen old new report before at told added =
    let cut : take (i + 1) cases ≡ take i cases ++ chosen ∷ [] =
    subst (λ c. take (i + 1) cases ≡ take i cases ++ c ∷ []) (get_or_from_slice_get cases i chosen chosen at)
    (take_more cases i chosen (slice_get_within cases i chosen at)) in
    let next : map case_of_file (take (i + 1) cases) ≡ map case_of_file (take i cases) ++ case_of_file chosen ∷ [] =
    ap (map case_of_file) cut ∙ map-append case_of_file (take i cases) (chosen ∷ []) in
    subst (λ xs. AreEach IsToldOf xs new) (sym next)
    (subst (AreEach IsToldOf (map case_of_file (take i cases) ++ case_of_file chosen ∷ [])) (sym added)
    (each_more IsToldOf (map case_of_file (take i cases)) old (case_of_file chosen) report before told))

pub all_played : (cases : List (ChosenCase Case)) (i : ℕ) (all : List CaseReport)
    → AreEach IsToldOf (map case_of_file (take i cases)) all → length cases ≤ i
    → AreEach IsToldOf (map case_of_file cases) all
all_played cases i all told end =
    subst (λ xs. AreEach IsToldOf (map case_of_file xs) all) (take_all i cases end) told
