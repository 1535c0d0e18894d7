use Rattle.std.proofs.Common.{append_assoc}
use Rattle.trace_json.specs.Answers.{case_json}
use Rattle.trace_json.proofs.cases.put_case.Goals as goal

pub returns-clause-adds : goal.returns-clause-adds
unfolding case_json
returns-clause-adds c =
    rw (
      c.in_ok-put_difference_if.ensures.adds,
      c.in_ok-put_flag.ensures.adds,
      c.holds.ensures,
      c.in_ok-put_string-2.ensures.adds,
      c.in_ok-put_string.ensures.adds,
      c.in_ok-begin_object.ensures.ok,
    ) (simp append_assoc)
