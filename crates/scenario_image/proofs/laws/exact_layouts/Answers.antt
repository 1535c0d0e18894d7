use Rattle.scenario_image.proofs.Exact.{step_exact, steps_exact, row_exact, rows_exact}
use Rattle.scenario_image.proofs.laws.exact_layouts.Goals as goal

pub returns-clause-step : goal.returns-clause-step
returns-clause-step c = step_exact

pub returns-clause-steps : goal.returns-clause-steps
returns-clause-steps c = steps_exact

pub returns-clause-row : goal.returns-clause-row
returns-clause-row c = row_exact

pub returns-clause-rows : goal.returns-clause-rows
returns-clause-rows c = rows_exact
