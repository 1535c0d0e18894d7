-- What is written, and what is still to come; the numbers in it are exact.
use Rattle.std.proofs.Common.{◌≡◌, ◌++◌, drop, map}
use Rattle.json.specs.Tree.{items_tokens}
use Rattle.serde_json.specs.Data.{string}
use Rattle.serde_json.specs.View.{items_of}
use Rattle.serde_json.specs.Written.{items_outline}
use Rattle.trace_json.specs.Answers.{texts_json}
use Rattle.trace_json.specs.Writing.{Has64Bits, tokens_of}
use Rattle.test_reports.proofs.objects.put_words.Given as goal

abbrev pub invariant-loop-answer : goal.invariant-loop-answer
invariant-loop-answer l = record {
  so_far : l.out.tokens
      ++ items_tokens (items_outline (items_of (map string (map (λ a. a.words) (drop l.answer-index l.answers)))))
      ≡ l.fn.out.tokens ++ tokens_of (texts_json (map (λ a. a.words) l.answers));
  before : l.out.before ≡ l.fn.out.before;
  exact : Has64Bits (texts_json (map (λ a. a.words) (drop l.answer-index l.answers)))
      → Has64Bits (texts_json (map (λ a. a.words) l.answers));
}
