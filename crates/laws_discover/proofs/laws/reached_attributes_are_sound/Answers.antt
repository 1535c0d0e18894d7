use Rattle.laws_discover.proofs.Reaching.{events_keep, reached_sound}
use Rattle.laws_discover.proofs.laws.reached_attributes_are_sound.Goals as goal

pub returns-clause-event : goal.returns-clause-event
returns-clause-event c = events_keep

pub returns-clause-reached : goal.returns-clause-reached
returns-clause-reached c = reached_sound
