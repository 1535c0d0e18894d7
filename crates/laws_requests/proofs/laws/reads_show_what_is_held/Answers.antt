use Rattle.laws_requests.proofs.ObjectReading.{instance_read, object_hidden, object_read}
use Rattle.laws_requests.proofs.laws.reads_show_what_is_held.Goals as goal

pub returns-clause-instance : goal.returns-clause-instance
returns-clause-instance c = instance_read

pub returns-clause-object : goal.returns-clause-object
returns-clause-object c = object_read

pub returns-clause-hidden : goal.returns-clause-hidden
returns-clause-hidden c = object_hidden
