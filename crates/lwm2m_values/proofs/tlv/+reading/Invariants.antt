use Rattle.std.proofs.Common.{◌+◌, ◌*◌, length}
use Rattle.lwm2m_values.specs.Tree.{trees_of}
use Rattle.lwm2m_values.specs.Tlv.{IsFront}
use Rattle.lwm2m_values.proofs.tlv.+reading.Given as goal

abbrev pub decreases-nodes_of : goal.decreases-nodes_of
decreases-nodes_of l = 2 * length l.bytes.now + 1

abbrev pub decreases-node_of : goal.decreases-node_of
decreases-node_of l = 2 * length l.content.now + 2

abbrev pub invariant-nodes_of-loop-rest : goal.invariant-nodes_of-loop-rest
invariant-nodes_of-loop-rest l = IsFront l.level l.bytes (trees_of l.nodes.items) l.rest

abbrev pub decreases-nodes_of-loop-rest : goal.decreases-nodes_of-loop-rest
decreases-nodes_of-loop-rest l = length l.rest
