use Rattle.std.proofs.Common.{◌≡◌, ℕ, suc, List, length, Option, None, Some, option_map}
use Rattle.std.specs.List.{list_all}
use Rattle.scenario_words.specs.Words.{parts, parts_behind}
use Rattle.scenario_words.specs.Number.{is_number}
use Rattle.scenario_words.proofs.paths.are_numbers.Given as goal

abbrev rest_len : Option (List ℕ) → ℕ
rest_len None = 0
rest_len (Some bytes) = suc (length bytes)

-- what is left decides
abbrev pub invariant-loop-left : goal.invariant-loop-left
invariant-loop-left l =
    list_all is_number (parts_behind l.byte (option_map (λ x. x.now) l.left))
    ≡ list_all is_number (parts l.byte l.fn.bytes)

abbrev pub decreases-loop-left : goal.decreases-loop-left
decreases-loop-left l = rest_len (option_map (λ x. x.now) l.left)
