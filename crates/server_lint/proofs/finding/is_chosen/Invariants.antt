use Rattle.std.proofs.Common.{◌≡◌, ℕ, ◌<◌}
use Rattle.std.proofs.Common.{get_or}
use Rattle.server_lint.proofs.finding.is_chosen.Given as goal

abbrev pub invariant-loop-other : goal.invariant-loop-other
invariant-loop-other l = (k : ℕ) → k < l.other-index → get_or l.chosen k l.rule ≡ l.rule → ⊥
