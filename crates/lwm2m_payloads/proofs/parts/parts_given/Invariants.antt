use Rattle.std.proofs.Common.{◌≡◌, length}
use Rattle.lwm2m_values.specs.Tree.{trees_of}
use Rattle.lwm2m_payloads.specs.Given.{parts_given}
use Rattle.lwm2m_payloads.proofs.Walk.{joined}
use Rattle.lwm2m_payloads.proofs.parts.parts_given.Given as goal

-- the parts so far and those that are left are all of them
abbrev pub invariant-loop-rest : goal.invariant-loop-rest
invariant-loop-rest l = joined l.parts (parts_given l.kind (trees_of l.rest)) ≡ parts_given l.kind (trees_of l.nodes)

abbrev pub decreases-loop-rest : goal.decreases-loop-rest
decreases-loop-rest l = length l.rest
