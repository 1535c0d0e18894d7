-- The lines of the answers before this one.
use Rattle.std.proofs.Common.{◌≡◌, take}
use Rattle.case_play.specs.Ends.{text_in}
use Rattle.case_play.proofs.ends.text_in.Given as goal

abbrev pub invariant-loop-answer : goal.invariant-loop-answer
invariant-loop-answer l = l.out.items ≡ text_in (take l.answer-index l.answers)
