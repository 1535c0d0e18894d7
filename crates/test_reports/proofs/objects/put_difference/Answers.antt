use Rattle.std.proofs.Common.{append_assoc}
use Rattle.trace_json.proofs.Faults.{both_exact, fields_then}
use Rattle.test_reports.proofs.objects.put_difference.Goals as goal

pub returns-clause-adds : goal.returns-clause-adds
returns-clause-adds c =
    rw (
      fields_then,
      c.in_ok-put_came.ensures.adds,
      c.in_ok-put_string.ensures.adds,
      c.in_ok-put_line.ensures.adds,
    ) (simp append_assoc)

pub returns-clause-exact : goal.returns-clause-exact
returns-clause-exact c =
    both_exact _ _ c.in_ok-put_line.ensures.exact (tt, c.in_ok-put_came.ensures.exact)
