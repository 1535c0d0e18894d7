use Rattle.std.proofs.Common.{◌≡◌, ◌++◌, ℕ, suc, List, length, Option, None, Some, option_map}
use Rattle.scenario_words.specs.Words.{parts, parts_behind}
use Rattle.case_text.specs.Expanding.{expanded_line}
use Rattle.case_text.proofs.expanding.expanded.Given as goal

abbrev rest_len : Option (List ℕ) → ℕ
rest_len None = 0
rest_len (Some bytes) = suc (length bytes)

-- what is written, and what is still to come
abbrev pub invariant-loop-left : goal.invariant-loop-left
invariant-loop-left l =
    l.out.items ++ expanded_line (parts_behind 32 (option_map (λ x. x.now) l.left)) ≡ expanded_line (parts 32 l.fn.line)

abbrev pub decreases-loop-left : goal.decreases-loop-left
decreases-loop-left l = rest_len (option_map (λ x. x.now) l.left)
