use Rattle.std.proofs.Common.{◌≡◌, ◌++◌}
use Rattle.expectations.specs.ExpectedCases.{cases_of, expectations_at}
use Rattle.expectations.proofs.Grouped.{with_more}
use Rattle.expectations.proofs.grouping.cases_of.Given as goal

-- the cases that are complete, the last one with what is still to come of its lines, and those still to come
abbrev pub invariant-loop-next : goal.invariant-loop-next
invariant-loop-next l =
    l.cases.items
    ++ (with_more l.current (expectations_at l.next-iterator.rest.items) ++ cases_of l.next-iterator.rest.items)
    ≡ cases_of l.fn.lines.items
