use Rattle.std.proofs.Common.{◌≡◌, drop}
use Rattle.case_text.specs.FileCases.{given_in}
use Rattle.case_text.proofs.file_grouping.given_in.Given as goal

-- what is left decides
abbrev pub invariant-loop-next : goal.invariant-loop-next
invariant-loop-next l = given_in (drop l.next-index l.lines) ≡ given_in l.lines
