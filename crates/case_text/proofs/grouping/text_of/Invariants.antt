use Rattle.std.proofs.Common.{◌≡◌, ◌++◌, drop}
use Rattle.std.specs.String.{string_bytes}
use Rattle.case_text.specs.Cases.{text_of}
use Rattle.case_text.proofs.grouping.text_of.Given as goal

-- what is written, and what is still to come
abbrev pub invariant-loop-line : goal.invariant-loop-line
invariant-loop-line l = string_bytes l.out ++ text_of (drop l.line-index l.lines) ≡ text_of l.lines
