use Rattle.std.proofs.Common.{◌≡◌, ◌+◌, ◌-◌, ◌^◌, ◌<◌, min, length, drop}
use Rattle.lwm2m_values.specs.Tree.{trees_of}
use Rattle.lwm2m_values.specs.Tlv.{shortest_tlv}
use Rattle.lwm2m_values.proofs.tlv_writer.+measuring.Given as goal

abbrev pub invariant-size_of_all-loop-node : goal.invariant-size_of_all-loop-node
invariant-size_of_all-loop-node l = record {
  small : l.size < 2 ^ 64;
  sum : min (l.size + length (shortest_tlv (trees_of (drop l.node-index l.nodes)))) (2 ^ 64 - 1)
      ≡ min (length (shortest_tlv (trees_of l.nodes))) (2 ^ 64 - 1);
}
