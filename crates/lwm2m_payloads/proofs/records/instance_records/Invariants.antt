use Rattle.std.proofs.Common.{◌≡◌, ◌+◌, take, drop}
use Rattle.lwm2m_values.specs.Tree.{trees_of}
use Rattle.lwm2m_payloads.specs.Least.{least_of_instances}
use Rattle.lwm2m_payloads.specs.Nodes.{object_nodes}
use Rattle.lwm2m_payloads.proofs.records.instance_records.Given as goal

-- the records so far, and the room that they and those that are left take
abbrev pub invariant-loop-instance : goal.invariant-loop-instance
invariant-loop-instance l = record {
  records : trees_of l.nodes.items ≡ object_nodes l.store l.resources l.object (take l.instance-index l.instances);
  room : l.room + least_of_instances l.store l.resources l.object l.instances
      ≡ l.fn.room + least_of_instances l.store l.resources l.object (drop l.instance-index l.instances);
}
