use Rattle.std.proofs.Common.{append_assoc}
use Rattle.command_lint.specs.Objects.{finding_json}
use Rattle.command_lint.proofs.objects.put_finding.Goals as goal

pub returns-clause-adds : goal.returns-clause-adds
unfolding finding_json
returns-clause-adds c =
    rw (
      c.in_ok-end_object.ensures.ok,
      c.in_ok-put_string.ensures.adds,
      c.in_ok-put_rule.ensures.adds,
      c.in_ok-put_number-4.ensures.adds,
      c.in_ok-put_number-3.ensures.adds,
      c.in_ok-put_number-2.ensures.adds,
      c.in_ok-put_number.ensures.adds,
      c.in_ok-begin_object.ensures.ok,
      c.from-4.ensures,
      c.server.ensures,
      c.from-3.ensures,
      c.second.ensures,
      c.from-2.ensures,
      c.step.ensures,
      c.from.ensures,
    ) (simp append_assoc)
