use Rattle.std.proofs.Common.{◌≡◌, ◌++◌, ◌∷◌}
use Rattle.case_text.specs.declared.line.Line.TheVariants.{Remark}
use Rattle.case_text.specs.Added.{digits_at, more_at, whole_line, whole_lines}
use Rattle.case_text.proofs.Grouped.{numbered_line}
use Rattle.case_text.proofs.adding.whole_lines.Given as goal

-- the lines that are complete, the last one with what is still to be added to it, and those still to come
abbrev pub invariant-loop-next : goal.invariant-loop-next
invariant-loop-next l =
    l.all.items
    ++ (numbered_line l.last.number (whole_line l.last.line (more_at l.next-iterator.rest.items)
    (digits_at l.next-iterator.rest.items))
    ∷ whole_lines l.next-iterator.rest.items)
    ≡ numbered_line 0 Remark ∷ whole_lines l.fn.lines.items
