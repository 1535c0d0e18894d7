use Rattle.std.proofs.Common.{◌≡◌, ◌++◌, ◌∷◌}
use Rattle.case_text.specs.FileCases.{all_trials, file_answers_at, trials_of}
use Rattle.case_text.proofs.Grouped.{trial}
use Rattle.case_text.proofs.file_grouping.all_trials.Given as goal

-- the trials that are complete, the last one with what is still to come of its answers, and those still to come
abbrev pub invariant-loop-next : goal.invariant-loop-next
invariant-loop-next l =
    l.trials.items ++ (trial l.line l.made (l.answers.items ++ file_answers_at l.next-iterator.rest.items)
    ∷ trials_of l.next-iterator.rest.items) ≡ all_trials l.fn.first l.fn.lines.items
