-- What is told of cases that are judged for devices, one after another.
use Rattle.std.proofs.Common.{◌≡◌, ℕ, suc, ◌+◌, ◌≤◌, List, [], ◌∷◌, ◌++◌, Bor, Option, Some, length, map, slice_get, take}
use Rattle.std.proofs.Common.{option_map, append-nil, append_assoc, arith, ap, ap₂, subst, sym, ◌∙◌}
use Rattle.std.proofs.lemmas.Grind.{flat_map-append}
use Rattle.std.proofs.lemmas.List.{map-append, take_all, take_more}
use Rattle.std.proofs.lemmas.Option.{get_or_from_slice_get, slice_get_within}
use Rattle.scenario_image.specs.Scenario.{Scenario}
use Rattle.expectations.specs.Arrivals.{arrivals_of, end_of_row}
use Rattle.expectations.specs.Laying.{IsVerdict}
use Rattle.expectations.specs.declared.expectation.ExpectedCase.{ExpectedCase}
use Rattle.expectations.specs.declared.verdict.Verdict.{Verdict}
use Rattle.test_reports.proofs.Each.{each_more}
use Rattle.test_reports.specs.Choice.{CaseOfFile, case_of_file}
use Rattle.test_reports.specs.Told.{AreEach, ToldDifference, told_case, told_difference}
use Rattle.test_reports.specs.declared.case_report.CaseReport.{CaseReport}
use Rattle.test_reports.specs.declared.case_report.Difference.{Difference}
use Rattle.test_reports.specs.declared.choice.ChosenCase.{ChosenCase}
use Rattle.command_expect.specs.Choice.{CaseOfDevice, cases_of_device, cases_of_devices, devices_to}
use Rattle.command_expect.specs.Told.{IsToldOn, difference_at, missed_line}

pub told : (chosen : ChosenCase ExpectedCase) (device : ℕ) (verdict : Verdict) (title : Bor (List ℕ))
    (difference : Option Difference) → title.now ≡ chosen.case.now.title
    → option_map told_difference difference
    ≡ difference_at (case_of_file chosen) (missed_line chosen.case.now verdict)
    → (s : Scenario) → IsVerdict verdict chosen.case.now.lines (arrivals_of s device) (end_of_row s device)
    → IsToldOn s (device, case_of_file chosen)
    (record { file = chosen.file; path = chosen.path; title = title; device = Some device; difference = difference })
told chosen device verdict title difference named differs s right =
    record {
      verdict = verdict;
      right = right;
      told = ap₂
          (λ (t : List ℕ) (d : Option ToldDifference). told_case (case_of_file chosen) t (Some device) d)
          named differs;
    }

-- ---- the cases before one, for a device

pub none_yet : (s : Scenario) (cases : List (ChosenCase ExpectedCase)) (device : ℕ) (all : List CaseReport)
    (before : List CaseOfDevice) → AreEach (IsToldOn s) before all
    → AreEach (IsToldOn s) (before ++ cases_of_device (map case_of_file (take 0 cases)) device) all
none_yet s cases device all before held =
    subst (λ xs. AreEach (IsToldOn s) xs all) (sym (append-nil before)) held

pub one_more : (s : Scenario) (cases : List (ChosenCase ExpectedCase)) (device i : ℕ)
    (chosen : ChosenCase ExpectedCase) (before : List CaseOfDevice) (old new : List CaseReport) (report : CaseReport)
    → AreEach (IsToldOn s) (before ++ cases_of_device (map case_of_file (take i cases)) device) old
    → slice_get cases i ≡ Some chosen → IsToldOn s (device, case_of_file chosen) report → new ≡ old ++ report ∷ []
    → AreEach (IsToldOn s) (before ++ cases_of_device (map case_of_file (take (i + 1) cases)) device) new
one_more s cases device i chosen before old new report held at told added =
    let so_far : List CaseOfDevice = cases_of_device (map case_of_file (take i cases)) device in
    let next : CaseOfDevice = (device, case_of_file chosen) in
    let one : take (i + 1) cases ≡ take i cases ++ chosen ∷ [] =
    subst (λ c. take (i + 1) cases ≡ take i cases ++ c ∷ []) (get_or_from_slice_get cases i chosen chosen at)
    (take_more cases i chosen (slice_get_within cases i chosen at)) in
    let cut : cases_of_device (map case_of_file (take (i + 1) cases)) device ≡ so_far ++ next ∷ [] =
    ap (λ xs. cases_of_device (map case_of_file xs) device) one
    ∙ ap (λ xs. cases_of_device xs device) (map-append case_of_file (take i cases) (chosen ∷ []))
    ∙ map-append (λ of. (device, of)) (map case_of_file (take i cases)) (case_of_file chosen ∷ []) in
    subst (λ xs. AreEach (IsToldOn s) xs new) (sym (ap (λ xs. before ++ xs) cut))
    (subst (λ xs. AreEach (IsToldOn s) xs new) (append_assoc before so_far (next ∷ []))
    (subst (AreEach (IsToldOn s) ((before ++ so_far) ++ next ∷ [])) (sym added)
    (each_more (IsToldOn s) (before ++ so_far) old next report held told)))

pub all_judged : (s : Scenario) (cases : List (ChosenCase ExpectedCase)) (device i : ℕ) (all : List CaseReport)
    (before : List CaseOfDevice) → length cases ≤ i
    → AreEach (IsToldOn s) (before ++ cases_of_device (map case_of_file (take i cases)) device) all
    → AreEach (IsToldOn s) (before ++ cases_of_device (map case_of_file cases) device) all
all_judged s cases device i all before end held =
    subst (λ xs. AreEach (IsToldOn s) (before ++ cases_of_device (map case_of_file xs) device) all)
    (take_all i cases end) held

-- ---- the devices before one

pub no_device : (s : Scenario) (cases : List (CaseOfFile ExpectedCase)) (all : List CaseReport) → all ≡ []
    → AreEach (IsToldOn s) (cases_of_devices cases (devices_to 0)) all
no_device s cases all none = subst (AreEach (IsToldOn s) []) (sym none) tt

pub one_device : (s : Scenario) (cases : List (CaseOfFile ExpectedCase)) (device : ℕ) (old new : List CaseReport)
    → old ≡ []
    → ((before : List CaseOfDevice) → AreEach (IsToldOn s) before old
    → AreEach (IsToldOn s) (before ++ cases_of_device cases device) new)
    → AreEach (IsToldOn s) (cases_of_devices cases (device ∷ [])) new
one_device s cases device old new none judged =
    subst (λ xs. AreEach (IsToldOn s) xs new) (sym (append-nil (cases_of_device cases device)))
    (judged [] (subst (AreEach (IsToldOn s) []) (sym none) tt))

pub one_device_more : (s : Scenario) (cases : List (CaseOfFile ExpectedCase)) (device : ℕ) (new : List CaseReport)
    → AreEach (IsToldOn s) (cases_of_devices cases (devices_to device) ++ cases_of_device cases device) new
    → AreEach (IsToldOn s) (cases_of_devices cases (devices_to (device + 1))) new
one_device_more s cases device new held =
    let one : device + 1 ≡ suc device = omega arith in
    subst (λ n. AreEach (IsToldOn s) (cases_of_devices cases (devices_to n)) new) (sym one)
    (subst (λ xs. AreEach (IsToldOn s) xs new)
    (ap (λ xs. cases_of_devices cases (devices_to device) ++ xs) (sym (append-nil (cases_of_device cases device)))
    ∙ sym (flat_map-append (cases_of_device cases) (devices_to device) (device ∷ []))) held)
