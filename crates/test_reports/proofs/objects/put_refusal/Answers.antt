use Rattle.std.proofs.Common.{append_assoc}
use Rattle.test_reports.proofs.objects.put_refusal.Goals as goal

pub returns-clause-adds : goal.returns-clause-adds
returns-clause-adds c =
    rw (
      c.in_ok-end_array.ensures.ok,
      c.in_ok-string.ensures.ok,
      c.as_str.ensures.value,
      c.in_ok-words.ensures,
      c.in_ok-begin_array.ensures.ok,
    ) (simp append_assoc)
