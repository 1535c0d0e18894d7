-- Rows that are added to a scenario, step by step.
use Rattle.std.proofs.Common.{ℕ, ◌≡◌, ◌+◌, ◌<◌, List, [], ◌∷◌, ◌++◌, length, take, get_or, Some, slice_get}
use Rattle.std.proofs.Common.{append_assoc, sym, ap, ◌∙◌}
use Rattle.std.proofs.lemmas.List.{take_more}
use Rattle.lemmas.proofs.Lists.{take_one_more}
use Rattle.scenario_image.specs.declared.step.Step.{Step}
use Rattle.scenario_image.specs.Scenario.{Row, Scenario, last_row, with_last, with_step}
use Rattle.scenario_image.proofs.RowLaws.{last_longer}

-- a row of a class with these steps
abbrev pub row_with : ℕ → List Step → Row
row_with class steps = record { class = class; steps = steps }

pub step_more : (rows : List Row) (class : ℕ) (steps : List Step) (i : ℕ) (d : Step) (old new : Scenario) (step : Step)
    → old.rows ≡ rows ++ row_with class (take i steps) ∷ [] → new ≡ with_step old step → step ≡ get_or steps i d
    → i < length steps → new.rows ≡ rows ++ row_with class (take (i + 1) steps) ∷ []
step_more rows class steps i d old new step were is same within =
    ap (λ (s : Scenario). s.rows) is ∙ ap (λ rs. with_last rs (last_row rs) step) were
    ∙ last_longer rows (row_with class (take i steps)) step
    ∙ ap (λ s. rows ++ row_with class (take i steps ++ s ∷ []) ∷ []) same
    ∙ ap (λ ss. rows ++ row_with class ss ∷ []) (sym (take_more steps i d within))

-- a row more
pub row_more : (rows part : List Row) (i : ℕ) (old new : List Row) (row : Row) → old ≡ rows ++ take i part
    → new ≡ old ++ row ∷ [] → Some row ≡ slice_get part i → new ≡ rows ++ take (i + 1) part
row_more rows part i old new row were is here =
    is ∙ ap (λ r. r ++ row ∷ []) were ∙ append_assoc rows (take i part) (row ∷ [])
    ∙ ap (λ l. rows ++ l) (sym (take_one_more part i row (sym here)))
