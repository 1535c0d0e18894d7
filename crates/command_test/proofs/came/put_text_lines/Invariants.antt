-- What is added of the lines so far.
use Rattle.std.proofs.Common.{◌≡◌, ◌++◌, map}
use Rattle.command_test.specs.Came.{text_line}
use Rattle.command_test.proofs.came.put_text_lines.Given as goal

abbrev pub invariant-loop-line : goal.invariant-loop-line
invariant-loop-line l =
    l.answers.items ≡ l.initial.answers.items ++ map text_line (map (λ x. x.now) l.yielded)
