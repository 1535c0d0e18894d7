-- What is written, and what is still to come.
use Rattle.std.proofs.Common.{◌≡◌, ◌++◌, drop}
use Rattle.case_play.specs.Answers.{lines_below}
use Rattle.case_play.proofs.file_stating.lines_below.Given as goal

abbrev pub invariant-loop-answer : goal.invariant-loop-answer
invariant-loop-answer l = l.lines.items ++ lines_below (drop l.answer-index l.below) ≡ lines_below l.below
