use Rattle.laws_device.proofs.Received.{arrivals_are_one, reactions_are_one, reactions_are_said}
use Rattle.laws_device.proofs.receiving.reactions_are_said.Goals as goal

pub returns-clause-said : goal.returns-clause-said
returns-clause-said c = reactions_are_said

pub returns-clause-one : goal.returns-clause-one
returns-clause-one c = reactions_are_one

pub returns-clause-arrival : goal.returns-clause-arrival
returns-clause-arrival c = arrivals_are_one
