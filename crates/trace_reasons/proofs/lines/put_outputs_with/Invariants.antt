-- What is written, and what is still to come.
use Rattle.std.proofs.Common.{◌≡◌, ◌++◌, ◌≤◌, drop, length}
use Rattle.std.specs.String.{string_bytes}
use Rattle.trace_reasons.specs.Text.{outputs_with}
use Rattle.trace_reasons.proofs.lines.put_outputs_with.Given as goal

abbrev pub invariant-loop-happening : goal.invariant-loop-happening
invariant-loop-happening l = record {
  within : l.place ≤ length l.outputs;
  rest : string_bytes l.out ++ outputs_with (drop l.place l.outputs) (drop l.happening-index l.happenings)
      ≡ string_bytes l.initial.out ++ outputs_with l.outputs l.happenings;
}
