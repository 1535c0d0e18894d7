use Rattle.std.proofs.Common.{append_assoc}
use Rattle.command_lint.specs.Objects.{count_json}
use Rattle.command_lint.proofs.objects.put_count.Goals as goal

pub returns-clause-adds : goal.returns-clause-adds
unfolding count_json
returns-clause-adds c =
    rw (
      c.in_ok-end_object.ensures.ok,
      c.in_ok-put_number.ensures.adds,
      c.in_ok-begin_object.ensures.ok,
    ) (simp append_assoc)
