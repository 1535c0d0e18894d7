use Rattle.std.proofs.Common.{◌≡◌, ◌++◌, drop}
use Rattle.case_text.specs.Cases.{numbers_of}
use Rattle.case_text.proofs.grouping.numbers_of.Given as goal

-- those that are there, and those that are still to come
abbrev pub invariant-loop-line : goal.invariant-loop-line
invariant-loop-line l = l.out.items ++ numbers_of l.title (drop l.line-index l.lines) ≡ numbers_of l.title l.lines
