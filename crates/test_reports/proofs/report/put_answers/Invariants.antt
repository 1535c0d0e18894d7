-- What is written, and what is still to come.
use Rattle.std.proofs.Common.{◌≡◌, ◌++◌, drop}
use Rattle.std.specs.List.{flat_map}
use Rattle.std.specs.String.{string_bytes}
use Rattle.test_reports.specs.Report.{answer_lines}
use Rattle.test_reports.proofs.report.put_answers.Given as goal

abbrev pub invariant-loop-answer : goal.invariant-loop-answer
invariant-loop-answer l =
    string_bytes l.out ++ flat_map answer_lines (drop l.answer-index l.answers)
    ≡ string_bytes l.initial.out ++ flat_map answer_lines l.answers
