use Rattle.std.proofs.Common.{◌≡◌, drop, false}
use Rattle.case_text.specs.Checks.{file_stray}
use Rattle.case_text.proofs.checking.file_stray.Given as goal

-- what is left decides
abbrev pub invariant-loop-answer : goal.invariant-loop-answer
invariant-loop-answer l = file_stray (drop l.answer-index l.answers) l.listed ≡ file_stray l.answers false
