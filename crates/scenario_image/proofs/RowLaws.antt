-- A row of a scenario that is valid; the last of some rows, and a step more of it.
use Rattle.std.proofs.Common.{◌≡◌, ℕ, ◌<◌, List, [], ◌∷◌, ◌++◌, length, Some, set, slice_get, ap, ◌∙◌}
use Rattle.lemmas.proofs.Lists.{each_at, item_at, item_pushed, last_place, set_pushed}
use Rattle.device_template.specs.Template.{Template}
use Rattle.scenario_image.specs.declared.step.Step.{Step}
use Rattle.scenario_image.specs.Play.{IsRowOf}
use Rattle.scenario_image.specs.Scenario.{IsGoodRow, IsValid, Row, Scenario, last_row, with_last, with_last_step}

pub last_is : (rows : List Row) (row : Row) → last_row (rows ++ row ∷ []) ≡ Some row
last_is rows row = ap (slice_get (rows ++ row ∷ [])) (last_place rows row) ∙ item_pushed rows row

pub last_longer : (rows : List Row) (row : Row) (step : Step)
    → with_last (rows ++ row ∷ []) (last_row (rows ++ row ∷ [])) step ≡ rows ++ with_last_step row step ∷ []
last_longer rows row step =
    ap (λ o. with_last (rows ++ row ∷ []) o step) (last_is rows row)
    ∙ ap (λ n. set (rows ++ row ∷ []) n (with_last_step row step)) (last_place rows row)
    ∙ set_pushed rows row (with_last_step row step)

-- a row that is there
pub record HasRow (s : Scenario) (d : ℕ) : Type 0 where
  pub class : Template
  pub steps : List Step
  pub row : IsRowOf s d class steps

pub row_of : (s : Scenario) (d : ℕ) → IsValid s → d < length s.rows → HasRow s d
row_of s d valid within =
    let found = item_at s.rows d within in
    let good : IsGoodRow s.classes found.0 = each_at (IsGoodRow s.classes) s.rows d found.0 valid.each found.1 in
    record {
      class = good.class;
      steps = found.0.steps;
      row = record { place = found.0.class; row = found.1; stated = good.stated };
    }
