-- What is added, and what is still to come.
use Rattle.std.proofs.Common.{◌≡◌, ◌++◌, drop, map}
use Rattle.command_test.specs.Came.{output_answer}
use Rattle.command_test.proofs.came.put_each_output.Given as goal

abbrev pub invariant-loop-output : goal.invariant-loop-output
invariant-loop-output l =
    l.answers.items ++ map output_answer (drop l.output-index l.outputs)
    ≡ l.initial.answers.items ++ map output_answer l.outputs
