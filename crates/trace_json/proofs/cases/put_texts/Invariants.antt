-- What is written, and what is still to come; the numbers in it are exact.
use Rattle.std.proofs.Common.{◌≡◌, ◌++◌, drop, map}
use Rattle.std.specs.String.{string_bytes}
use Rattle.json.specs.Tree.{items_tokens}
use Rattle.serde_json.specs.Data.{string}
use Rattle.serde_json.specs.View.{items_of}
use Rattle.serde_json.specs.Written.{items_outline}
use Rattle.trace_json.specs.Answers.{texts_json}
use Rattle.trace_json.specs.Writing.{Has64Bits, tokens_of}
use Rattle.trace_json.proofs.cases.put_texts.Given as goal

abbrev pub invariant-loop-text : goal.invariant-loop-text
invariant-loop-text l = record {
  so_far : l.out.tokens
      ++ items_tokens (items_outline (items_of (map string (map (λ w. string_bytes w) (drop l.text-index l.texts)))))
      ≡ l.fn.out.tokens ++ tokens_of (texts_json (map (λ w. string_bytes w) l.texts));
  before : l.out.before ≡ l.fn.out.before;
  exact : Has64Bits (texts_json (map (λ w. string_bytes w) (drop l.text-index l.texts)))
      → Has64Bits (texts_json (map (λ w. string_bytes w) l.texts));
}
