use Rattle.std.proofs.Common.{◌≡◌, ℕ, suc, List, length, Option, None, Some, option_map}
use Rattle.scenario_words.specs.Words.{parts, parts_behind}
use Rattle.case_text.specs.Digits.{pieces_of}
use Rattle.case_text.proofs.Parts.{onto}
use Rattle.case_text.proofs.pieces.pieces_of.Given as goal

abbrev rest_len : Option (List ℕ) → ℕ
rest_len None = 0
rest_len (Some bytes) = suc (length bytes)

-- what was read, before what is still to be read
abbrev pub invariant-loop-left : goal.invariant-loop-left
invariant-loop-left l =
    onto l.all.items (pieces_of (parts_behind 43 (option_map (λ x. x.now) l.left)))
    ≡ pieces_of (parts 43 l.fn.word)

abbrev pub decreases-loop-left : goal.decreases-loop-left
decreases-loop-left l = rest_len (option_map (λ x. x.now) l.left)
