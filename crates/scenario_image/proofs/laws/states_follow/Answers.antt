use Rattle.scenario_image.specs.Play.{start}
use Rattle.scenario_image.proofs.Played.{next_state}
use Rattle.scenario_image.proofs.laws.states_follow.Goals as goal

pub returns-clause-next : goal.returns-clause-next
returns-clause-next c = λ class steps k step h. next_state (start class) steps k step h
