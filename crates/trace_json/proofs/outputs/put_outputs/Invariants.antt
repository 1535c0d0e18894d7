-- What is written, and what is still to come; the numbers in it are exact.
use Rattle.std.proofs.Common.{◌≡◌, ◌++◌, drop, map}
use Rattle.json.specs.Tree.{items_tokens}
use Rattle.serde_json.specs.View.{items_of}
use Rattle.serde_json.specs.Written.{items_outline}
use Rattle.trace_json.specs.Steps.{output_json, outputs_json}
use Rattle.trace_json.specs.Writing.{Has64Bits, tokens_of}
use Rattle.trace_json.proofs.outputs.put_outputs.Given as goal

abbrev pub invariant-loop-output : goal.invariant-loop-output
invariant-loop-output l = record {
  so_far : l.out.tokens ++ items_tokens (items_outline (items_of (map output_json (drop l.output-index l.outputs))))
      ≡ l.fn.out.tokens ++ tokens_of (outputs_json l.outputs);
  before : l.out.before ≡ l.fn.out.before;
  exact : Has64Bits (outputs_json (drop l.output-index l.outputs)) → Has64Bits (outputs_json l.outputs);
}
