use Rattle.std.proofs.Common.{◌≡◌, ◌++◌, ◌∷◌}
use Rattle.case_text.specs.Cases.{answers_at, items_of, all_items}
use Rattle.case_text.proofs.Grouped.{item}
use Rattle.case_text.proofs.grouping.all_items.Given as goal

-- the items that are complete, the last one with what is still to come of its answers, and those still to come
abbrev pub invariant-loop-next : goal.invariant-loop-next
invariant-loop-next l =
    l.items.items ++ (item l.line l.part (l.answers.items ++ answers_at l.next-iterator.rest.items)
    ∷ items_of l.next-iterator.rest.items) ≡ all_items l.fn.title l.fn.lines.items
