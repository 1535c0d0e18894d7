use Rattle.std.proofs.Common.{◌≡◌, ◌++◌, ◌∷◌, length}
use Rattle.std.specs.List.{flat_map}
use Rattle.scenario_words.specs.Words.{words}
use Rattle.case_text.proofs.file_stating.put_words.Given as goal

-- what is written, and the words still to come
abbrev pub invariant-loop-next : goal.invariant-loop-next
invariant-loop-next l =
    l.all.items ++ flat_map (λ w. 32 ∷ w) (words l.rest) ≡ l.word ++ flat_map (λ w. 32 ∷ w) (words l.line)

abbrev pub decreases-loop-next : goal.decreases-loop-next
decreases-loop-next l = length (words l.rest)
