use Rattle.laws_image.proofs.PartsRead.{definitions, entries, outputs, steps, values}
use Rattle.laws_image.proofs.parts.parts_have_bytes.Goals as goal

pub returns-clause-values : goal.returns-clause-values
returns-clause-values c = values

pub returns-clause-definitions : goal.returns-clause-definitions
returns-clause-definitions c = definitions

pub returns-clause-steps : goal.returns-clause-steps
returns-clause-steps c = steps c.exact_layouts.ensures.step

pub returns-clause-outputs : goal.returns-clause-outputs
returns-clause-outputs c = outputs

pub returns-clause-entries : goal.returns-clause-entries
returns-clause-entries c = entries
