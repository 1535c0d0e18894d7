use Rattle.device_requests.proofs.Hiding.{hidden, refused}
use Rattle.device_requests.proofs.laws.unreadable_is_hidden.Goals as goal

pub returns-clause-refused : goal.returns-clause-refused
returns-clause-refused c = refused

pub returns-clause-object : goal.returns-clause-object
returns-clause-object c = hidden
