use Rattle.fleet_core.proofs.Posts.{run_left, run_last, run_push, enabled_can}
use Rattle.fleet_core.proofs.laws.runs_grow.Goals as goal

pub returns-clause-front : goal.returns-clause-front
returns-clause-front c = run_left

pub returns-clause-fits : goal.returns-clause-fits
returns-clause-fits c = run_last

pub returns-clause-more : goal.returns-clause-more
returns-clause-more c = run_push

pub returns-clause-can : goal.returns-clause-can
returns-clause-can c = enabled_can
