use Rattle.std.proofs.Common.{◌≡◌, ◌+◌, take, drop}
use Rattle.lwm2m_values.specs.Tree.{trees_of}
use Rattle.lwm2m_payloads.specs.Least.{least_of}
use Rattle.lwm2m_payloads.specs.Nodes.{nodes_of}
use Rattle.lwm2m_payloads.proofs.Least.{shown_of}
use Rattle.lwm2m_payloads.proofs.records.records_of.Given as goal

-- the records so far, and the room that they and those that are left take
abbrev pub invariant-loop-path : goal.invariant-loop-path
invariant-loop-path l = record {
  records : trees_of l.nodes.items ≡ nodes_of (shown_of l.resources (take l.path-index l.pairs));
  room : l.room + least_of (shown_of l.resources l.pairs)
      ≡ l.fn.room + least_of (shown_of l.resources (drop l.path-index l.pairs));
}
