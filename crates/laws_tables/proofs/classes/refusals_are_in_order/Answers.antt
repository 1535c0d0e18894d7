use Rattle.laws_tables.proofs.Refusing.{accounts_refused, timeouts_refused, objects_refused, resources_refused}
use Rattle.laws_tables.proofs.Refusing.{instances_refused, values_refused}
use Rattle.laws_tables.proofs.classes.refusals_are_in_order.Goals as goal

pub returns-clause-accounts : goal.returns-clause-accounts
returns-clause-accounts c = accounts_refused

pub returns-clause-timeouts : goal.returns-clause-timeouts
returns-clause-timeouts c = timeouts_refused

pub returns-clause-objects : goal.returns-clause-objects
returns-clause-objects c = objects_refused

pub returns-clause-resources : goal.returns-clause-resources
returns-clause-resources c = resources_refused

pub returns-clause-instances : goal.returns-clause-instances
returns-clause-instances c = instances_refused

pub returns-clause-values : goal.returns-clause-values
returns-clause-values c = values_refused
