use Rattle.std.proofs.Common.{◌≡◌, ◌+◌, false, length}
use Rattle.lwm2m_values.specs.Tree.{trees_of}
use Rattle.lwm2m_payloads.specs.Given.{assignments, assignments_from}
use Rattle.lwm2m_payloads.proofs.Walk.{joined, no_later}
use Rattle.lwm2m_payloads.proofs.instance.assignments.Given as goal

-- the assignments so far and those that are left are all of them, and those that are left are to other resources
abbrev pub invariant-loop-rest : goal.invariant-loop-rest
invariant-loop-rest l = record {
  told : joined l.given (assignments_from (l.place + 1) l.purpose l.resources (trees_of l.rest))
      ≡ assignments l.purpose l.resources (trees_of l.nodes);
  apart : no_later (trees_of l.rest) l.given ≡ false;
  count : l.place + length l.rest ≡ length l.nodes;
}

abbrev pub decreases-loop-rest : goal.decreases-loop-rest
decreases-loop-rest l = length l.rest
