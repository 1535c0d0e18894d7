use Rattle.laws_requests.proofs.Giving.{instances_given, other_refused, resources_given}
use Rattle.laws_requests.proofs.PartGiving.{creations_given, parts_given_by}
use Rattle.laws_requests.proofs.laws.payloads_give_what_they_say.Goals as goal

pub returns-clause-instances : goal.returns-clause-instances
returns-clause-instances c = instances_given

pub returns-clause-other : goal.returns-clause-other
returns-clause-other c = other_refused

pub returns-clause-resources : goal.returns-clause-resources
returns-clause-resources c = resources_given

pub returns-clause-parts : goal.returns-clause-parts
returns-clause-parts c = parts_given_by

pub returns-clause-creations : goal.returns-clause-creations
returns-clause-creations c = creations_given
