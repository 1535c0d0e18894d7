use Rattle.laws_requests.proofs.PartWriting.{parts_written}
use Rattle.laws_requests.proofs.Writing.{instances_written, resources_written}
use Rattle.laws_requests.proofs.laws.writes_are_kept.Goals as goal

pub returns-clause-instances : goal.returns-clause-instances
returns-clause-instances c = instances_written

pub returns-clause-resources : goal.returns-clause-resources
returns-clause-resources c = resources_written

pub returns-clause-parts : goal.returns-clause-parts
returns-clause-parts c = parts_written
