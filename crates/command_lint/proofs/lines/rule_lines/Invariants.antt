use Rattle.std.proofs.Common.{◌≡◌, take}
use Rattle.std.specs.List.{flat_map}
use Rattle.std.specs.String.{string_bytes}
use Rattle.command_lint.specs.Lines.{rule_line}
use Rattle.command_lint.proofs.lines.rule_lines.Given as goal

abbrev pub invariant-loop-rule : goal.invariant-loop-rule
invariant-loop-rule l = string_bytes l.text ≡ flat_map rule_line (take l.rule-index l.rules)
