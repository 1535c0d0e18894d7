-- How many steps the rows of a valid scenario have together.
use Rattle.std.proofs.Common.{◌≡◌, ℕ, ◌+◌, ◌*◌, ◌<◌, ◌≤◌, List, [], ◌∷◌, ◌++◌, length, get_or, take, sym, ap, subst}
use Rattle.std.proofs.Common.{◌∙◌, arith}
use Rattle.std.specs.List.{AllByRecursion, sum_by}
use Rattle.std.proofs.lemmas.List.{take_more}
use Rattle.std.proofs.lemmas.List.Sums.{sum_by-cons, sum_by_push, sum_by-take-le}
use Rattle.device_template.specs.Template.{Template}
use Rattle.scenario_image.specs.Scenario.{Row, Scenario, IsGoodRow, IsValid}

abbrev steps_in : Row → ℕ
steps_in r = length r.steps

steps_few : (classes : List Template) (rows : List Row) → AllByRecursion (IsGoodRow classes) rows
    → sum_by steps_in rows ≤ 4096 * length rows
steps_few classes [] all = omega arith
steps_few classes (r ∷ rows) all = omega (arith, sum_by-cons steps_in r rows, all.0.count, steps_few classes rows all.1)

-- the steps of the first rows, with those of the next
pub one_row_more : (rows : List Row) (i : ℕ) (row : Row) → i < length rows → row ≡ get_or rows i row
    → sum_by (λ r. length r.steps) (take (i + 1) rows) ≡ sum_by (λ r. length r.steps) (take i rows) + length row.steps
one_row_more rows i row lt item =
    ap (sum_by steps_in) (take_more rows i row lt ∙ ap (λ r. take i rows ++ r ∷ []) (sym item))
    ∙ sum_by_push steps_in (take i rows) row

-- they are few
pub few_steps : (s : Scenario) (rows : List Row) (i : ℕ) (row : Row) → rows ≡ s.rows → IsValid s → i < length rows
    → row ≡ get_or rows i row → sum_by (λ r. length r.steps) (take i rows) + length row.steps ≤ 67108864
few_steps s rows i row lent valid lt item =
    let rows_few : length rows ≤ 16384 = rw lent valid.rows in
    let each : AllByRecursion (IsGoodRow s.classes) rows =
    subst (λ (rs : List Row). AllByRecursion (IsGoodRow s.classes) rs) (sym lent) valid.each in
    omega (
      arith,
      one_row_more rows i row lt item,
      sum_by-take-le steps_in rows (i + 1),
      steps_few s.classes rows each,
      rows_few,
    )
