-- What is written, and what is still to come; the numbers in it are exact.
use Rattle.std.proofs.Common.{◌≡◌, ◌++◌, drop, map}
use Rattle.std.specs.String.{string_bytes}
use Rattle.json.specs.Tree.{items_tokens}
use Rattle.serde_json.specs.View.{items_of}
use Rattle.serde_json.specs.Written.{items_outline}
use Rattle.trace_json.specs.Json.{list_json}
use Rattle.trace_json.specs.Reasons.{reasoned_outputs, reasoned_outputs_json}
use Rattle.trace_json.specs.Writing.{Has64Bits, tokens_of}
use Rattle.trace_json.proofs.reasons.put_outputs.Given as goal

abbrev pub invariant-loop-place : goal.invariant-loop-place
invariant-loop-place l = record {
  so_far : l.out.tokens ++ items_tokens (items_outline (items_of
      (reasoned_outputs (drop l.place l.outputs) (drop l.place (map (λ w. string_bytes w) l.whys)))))
      ≡ l.fn.out.tokens ++ tokens_of (reasoned_outputs_json l.outputs (map (λ w. string_bytes w) l.whys));
  before : l.out.before ≡ l.fn.out.before;
  exact : Has64Bits (list_json (reasoned_outputs (drop l.place l.outputs)
      (drop l.place (map (λ w. string_bytes w) l.whys))))
      → Has64Bits (reasoned_outputs_json l.outputs (map (λ w. string_bytes w) l.whys));
}
