use Rattle.laws_requests.proofs.InstanceBack.{instances_hold}
use Rattle.laws_requests.proofs.InstanceReading.{instances_read}
use Rattle.laws_requests.proofs.laws.instances_hold_what_was_given.Goals as goal

pub returns-clause-held : goal.returns-clause-held
returns-clause-held c = instances_hold

pub returns-clause-read : goal.returns-clause-read
returns-clause-read c = instances_read
