use Rattle.std.proofs.Common.{append_assoc}
use Rattle.trace_json.specs.Reasons.{silent_end_json}
use Rattle.trace_json.proofs.reasons.put_end.Goals as goal

pub returns-clause-adds : goal.returns-clause-adds
unfolding silent_end_json
returns-clause-adds c =
    rw (
      c.in_ok-end_object.ensures.ok,
      c.in_ok-put_string-2.ensures.adds,
      c.in_ok-put_number.ensures.adds,
      c.in_ok-put_string.ensures.adds,
      c.in_ok-begin_object.ensures.ok,
      c.as_str.ensures.value,
      c.as_str-2.ensures.value,
    ) (simp append_assoc)
