use Rattle.std.proofs.Common.{append_assoc}
use Rattle.trace_json.specs.Notes.{fault_json}
use Rattle.trace_json.proofs.Faults.{both_exact, five_lists}
use Rattle.trace_json.proofs.notes.put_fault.Goals as goal

pub returns-clause-adds : goal.returns-clause-adds
unfolding fault_json
returns-clause-adds c =
    rw (
      five_lists,
      c.in_ok-end_object.ensures.ok,
      c.in_ok-put_string_if-3.ensures.adds,
      c.in_ok-put_string_if-2.ensures.adds,
      c.in_ok-put_string_if.ensures.adds,
      c.in_ok-put_number_if-2.ensures.adds,
      c.in_ok-put_number_if.ensures.adds,
      c.in_ok-put_string.ensures.adds,
      c.in_ok-begin_object.ensures.ok,
    ) (simp append_assoc)

pub returns-clause-exact : goal.returns-clause-exact
unfolding fault_json
returns-clause-exact c = (
  tt,
  both_exact _ _ c.in_ok-put_number_if.ensures.exact
      (both_exact _ _ c.in_ok-put_number_if-2.ensures.exact
      (both_exact _ _ c.in_ok-put_string_if.ensures.exact
      (both_exact _ _ c.in_ok-put_string_if-2.ensures.exact c.in_ok-put_string_if-3.ensures.exact))),
)
