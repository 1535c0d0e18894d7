use Rattle.fleet_core.proofs.Taken.{step_taken, shows_next, outputs_next, shows_first, place_below, row_below}
use Rattle.fleet_core.proofs.laws.steps_are_taken.Goals as goal

pub returns-clause-refused : goal.returns-clause-refused
returns-clause-refused c = step_taken

pub returns-clause-shows : goal.returns-clause-shows
returns-clause-shows c = shows_next

pub returns-clause-outputs : goal.returns-clause-outputs
returns-clause-outputs c = outputs_next

pub returns-clause-first : goal.returns-clause-first
returns-clause-first c = shows_first

pub returns-clause-place : goal.returns-clause-place
returns-clause-place c = place_below

pub returns-clause-row : goal.returns-clause-row
returns-clause-row c = row_below
