use Rattle.live_link.proofs.Came.{all_heard, all_ticked}
use Rattle.live_link.proofs.laws.steps_are_what_came.Goals as goal

pub returns-clause-heard : goal.returns-clause-heard
returns-clause-heard c = all_heard

pub returns-clause-ticked : goal.returns-clause-ticked
returns-clause-ticked c = all_ticked
