use Rattle.std.proofs.Common.{append_assoc}
use Rattle.trace_json.specs.Answers.{counts_json}
use Rattle.trace_json.proofs.cases.put_counts.Goals as goal

pub returns-clause-adds : goal.returns-clause-adds
unfolding counts_json
returns-clause-adds c =
    rw (
      c.in_ok-end_object.ensures.ok,
      c.in_ok-put_number-2.ensures.adds,
      c.in_ok-put_number.ensures.adds,
      c.in_ok-begin_object.ensures.ok,
    ) (simp append_assoc)
