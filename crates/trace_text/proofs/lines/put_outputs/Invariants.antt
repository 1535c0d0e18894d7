-- What is written, and what is still to come.
use Rattle.std.proofs.Common.{◌≡◌, ◌++◌, drop}
use Rattle.std.specs.String.{string_bytes}
use Rattle.trace_text.specs.Lines.{all_output_lines}
use Rattle.trace_text.proofs.lines.put_outputs.Given as goal

abbrev pub invariant-loop-output : goal.invariant-loop-output
invariant-loop-output l =
    string_bytes l.out ++ all_output_lines (drop l.output-index l.outputs) ≡ string_bytes l.initial.out
    ++ all_output_lines l.outputs
