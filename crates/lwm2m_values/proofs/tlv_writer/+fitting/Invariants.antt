use Rattle.std.proofs.Common.{◌↔◌, drop}
use Rattle.lwm2m_values.specs.Tree.{trees_of}
use Rattle.lwm2m_values.specs.Tlv.{AreNested, AreShort}
use Rattle.lwm2m_values.proofs.tlv_writer.+fitting.Given as goal

abbrev pub invariant-all_fit-loop-node : goal.invariant-all_fit-loop-node
invariant-all_fit-loop-node l =
    (AreNested l.level (trees_of l.nodes) × AreShort (trees_of l.nodes))
    ↔ (AreNested l.level (trees_of (drop l.node-index l.nodes)) × AreShort (trees_of (drop l.node-index l.nodes)))
