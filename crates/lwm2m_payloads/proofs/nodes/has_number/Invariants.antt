use Rattle.std.proofs.Common.{◌≡◌, drop}
use Rattle.lwm2m_values.specs.Tree.{trees_of}
use Rattle.lwm2m_payloads.specs.Given.{has_number}
use Rattle.lwm2m_payloads.proofs.nodes.has_number.Given as goal

-- what is still to come has the same
abbrev pub invariant-loop-node : goal.invariant-loop-node
invariant-loop-node l =
    has_number l.number (trees_of (drop l.node-index l.nodes)) ≡ has_number l.number (trees_of l.nodes)
