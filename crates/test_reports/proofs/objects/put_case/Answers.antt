use Rattle.std.proofs.Common.{append_assoc}
use Rattle.test_reports.specs.InJson.{case_json}
use Rattle.trace_json.proofs.Faults.{both_exact, fields_then}
use Rattle.test_reports.proofs.objects.put_case.Goals as goal

pub returns-clause-adds : goal.returns-clause-adds
unfolding case_json
returns-clause-adds c =
    rw (
      fields_then,
      c.in_ok-put_difference_if.ensures.adds,
      c.in_ok-put_flag.ensures.adds,
      c.holds.ensures,
      c.in_ok-put_device.ensures.adds,
      c.in_ok-put_string-2.ensures.adds,
      c.in_ok-put_string.ensures.adds,
      c.in_ok-begin_object.ensures.ok,
    ) (simp append_assoc)

pub returns-clause-exact : goal.returns-clause-exact
unfolding case_json
returns-clause-exact c =
    (tt, (tt, both_exact _ _ c.in_ok-put_device.ensures.exact (tt, c.in_ok-put_difference_if.ensures.exact)))
