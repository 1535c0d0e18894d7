use Rattle.scenario_image.proofs.Fits.{step_good, good_step, rows_good}
use Rattle.scenario_image.proofs.Imaged.{rows_valid}
use Rattle.scenario_image.proofs.laws.valid_have_bytes.Goals as goal

pub returns-clause-step : goal.returns-clause-step
returns-clause-step c = step_good

pub returns-clause-good_step : goal.returns-clause-good_step
returns-clause-good_step c = good_step

pub returns-clause-rows : goal.returns-clause-rows
returns-clause-rows c = λ s valid. rows_good s.classes s.rows valid.classes valid.rows valid.each

pub returns-clause-valid : goal.returns-clause-valid
returns-clause-valid c = rows_valid
