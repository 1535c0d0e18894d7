use Rattle.std.proofs.Common.{◌≡◌, drop, false}
use Rattle.case_text.specs.Checks.{stray}
use Rattle.case_text.proofs.checking.stray.Given as goal

-- what is left decides
abbrev pub invariant-loop-answer : goal.invariant-loop-answer
invariant-loop-answer l = stray (drop l.answer-index l.answers) l.announced ≡ stray l.answers false
