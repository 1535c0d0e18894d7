use Rattle.std.proofs.Common.{◌≡◌, drop}
use Rattle.case_text.specs.Checks.{check_of_start}
use Rattle.case_text.proofs.checking.begun.Given as goal

-- what is left decides
abbrev pub invariant-loop-next : goal.invariant-loop-next
invariant-loop-next l = check_of_start (drop l.next-index l.lines) ≡ check_of_start l.lines
