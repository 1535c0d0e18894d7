use Rattle.std.proofs.Common.{◌≡◌, ◌++◌}
use Rattle.lwm2m_payloads.specs.Changes.{with_parts}
use Rattle.lwm2m_payloads.proofs.changes.put_parts.Given as goal

-- those so far are set, and they and those that are left are all
abbrev pub invariant-loop-part : goal.invariant-loop-part
invariant-loop-part l = record {
  set : l.store ≡ with_parts l.fn.store l.fn.path l.yielded;
  left : l.fn.parts ≡ l.yielded ++ l.part-iterator.rest.items;
}
