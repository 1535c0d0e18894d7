use Rattle.std.proofs.Common.{◌≡◌, ◌++◌}
use Rattle.lwm2m_payloads.specs.Changes.{with_assignments}
use Rattle.lwm2m_payloads.proofs.changes.set_all.Given as goal

-- those so far are set, and they and those that are left are all
abbrev pub invariant-loop-assignment : goal.invariant-loop-assignment
invariant-loop-assignment l = record {
  set : l.store ≡ with_assignments l.fn.mode l.fn.resources l.fn.store l.fn.place l.yielded;
  left : l.fn.given ≡ l.yielded ++ l.assignment-iterator.rest.items;
}
