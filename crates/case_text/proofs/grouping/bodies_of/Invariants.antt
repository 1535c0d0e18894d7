use Rattle.std.proofs.Common.{◌≡◌, ◌++◌, ◌∷◌, [], map}
use Rattle.case_text.specs.Cases.{body_of, case_by, case_of, cases_of}
use Rattle.case_text.proofs.grouping.bodies_of.Given as goal

-- the cases that are complete, the last one with what is still to come of its lines, and those still to come
abbrev pub invariant-loop-next : goal.invariant-loop-next
invariant-loop-next l =
    map case_by l.bodies.items
    ++ (case_of l.current.title l.current.line (l.current.lines.items ++ body_of l.next-iterator.rest.items)
    ∷ cases_of l.next-iterator.rest.items)
    ≡ case_of [] 0 (body_of l.fn.lines.items) ∷ cases_of l.fn.lines.items
