use Rattle.lwm2m_payloads.proofs.EachOnce.{resource_once, part_given_once, instance_once, creation_once}
use Rattle.lwm2m_payloads.proofs.Written.{at_given, given_instances, at_written, written_instances}
use Rattle.lwm2m_payloads.proofs.laws.writes.Goals as goal

pub returns-clause-resource : goal.returns-clause-resource
returns-clause-resource c =
    λ mode given stored p q once. (at_given mode given stored p q once, given_instances mode given stored p)

pub returns-clause-values : goal.returns-clause-values
returns-clause-values c = at_written

pub returns-clause-instances : goal.returns-clause-instances
returns-clause-instances c = written_instances

pub returns-clause-once : goal.returns-clause-once
returns-clause-once c = (resource_once, part_given_once, instance_once, creation_once)
