use Rattle.std.proofs.Common.{◌≡◌, ◌++◌, drop}
use Rattle.lwm2m_values.specs.Tree.{trees_of}
use Rattle.lwm2m_values.specs.Tlv.{shortest_tlv, AreShort}
use Rattle.lwm2m_values.proofs.tlv_writer.+writing.Given as goal

abbrev pub invariant-put_nodes-loop-node : goal.invariant-put_nodes-loop-node
invariant-put_nodes-loop-node l = record {
  short : AreShort (trees_of (drop l.node-index l.nodes));
  whole : l.out.items ++ shortest_tlv (trees_of (drop l.node-index l.nodes)) ≡ l.initial.out.items
      ++ shortest_tlv (trees_of l.nodes);
}
