use Rattle.std.proofs.Common.{◌≡◌, ◌++◌, map}
use Rattle.case_text.specs.Cases.{case_by, cases_of}
use Rattle.case_text.proofs.grouping.cases_of.Given as goal

-- the cases that are there, and those still to come
abbrev pub invariant-loop-body : goal.invariant-loop-body
invariant-loop-body l = l.cases.items ++ map case_by l.body-iterator.rest.items ≡ cases_of l.fn.lines.items
