use Rattle.std.proofs.Common.{append_assoc}
use Rattle.command_lint.proofs.objects.put_rule.Goals as goal

pub returns-clause-adds : goal.returns-clause-adds
returns-clause-adds c =
    rw (
      c.in_ok-put_string-3.ensures.adds,
      c.in_ok-put_string-2.ensures.adds,
      c.in_ok-put_string.ensures.adds,
      c.standard.ensures,
      c.section.ensures,
      c.name.ensures,
    ) (simp append_assoc)
