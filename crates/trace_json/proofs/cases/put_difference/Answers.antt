use Rattle.std.proofs.Common.{append_assoc}
use Rattle.trace_json.proofs.Faults.{both_exact, fields_then}
use Rattle.trace_json.proofs.cases.put_difference.Goals as goal

pub returns-clause-adds : goal.returns-clause-adds
returns-clause-adds c =
    rw (
      fields_then,
      c.in_ok-end_object.ensures.ok,
      c.in_ok-put_texts.ensures.adds,
      c.in_ok-key.ensures.ok,
      c.in_ok-put_string.ensures.adds,
      c.in_ok-put_number_if.ensures.adds,
    ) (simp append_assoc)

pub returns-clause-exact : goal.returns-clause-exact
returns-clause-exact c =
    both_exact _ _ c.in_ok-put_number_if.ensures.exact (tt, (c.in_ok-put_texts.ensures.exact, tt))
