use Rattle.std.proofs.Common.{◌≡◌, List, ◌++◌, map, take}
use Rattle.server_lint.specs.declared.finding.Finding.{Finding}
use Rattle.server_lint.specs.Findings.{AreThose, IsFinding, all_rules}
use Rattle.server_lint.proofs.finding.add_place.Given as goal

abbrev pub invariant-loop-rule : goal.invariant-loop-rule
invariant-loop-rule l = record {
  all : l.rule-items ≡ all_rules;
  those : (so_far : List Finding) → AreThose (IsFinding l.chosen l.history l.end) so_far l.fn.found.items
      → AreThose (IsFinding l.chosen l.history l.end)
      (so_far ++ map (λ rule. record { place = l.place; rule = rule }) (take l.rule-index l.rule-items)) l.found.items;
}
