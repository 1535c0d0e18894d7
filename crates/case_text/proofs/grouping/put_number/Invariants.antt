use Rattle.std.proofs.Common.{◌≡◌, ◌++◌, replicate}
use Rattle.case_text.proofs.grouping.put_number.Given as goal

-- what is there, and what is still to come
abbrev pub invariant-loop-left : goal.invariant-loop-left
invariant-loop-left l = l.out.items ++ replicate l.left l.number ≡ l.fn.out.items ++ replicate l.times l.number

abbrev pub decreases-loop-left : goal.decreases-loop-left
decreases-loop-left l = l.left
