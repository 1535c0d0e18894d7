-- What is written, and what is still to come; the numbers in it are exact.
use Rattle.std.proofs.Common.{◌≡◌, ◌++◌, drop, map}
use Rattle.json.specs.Tree.{items_tokens}
use Rattle.serde_json.specs.View.{items_of}
use Rattle.serde_json.specs.Written.{items_outline}
use Rattle.trace_json.specs.Reasons.{said_end, silent_end_json, silent_ends_json}
use Rattle.trace_json.specs.Writing.{Has64Bits, tokens_of}
use Rattle.trace_json.proofs.reasons.put_ends.Given as goal

abbrev pub invariant-loop-end : goal.invariant-loop-end
invariant-loop-end l = record {
  so_far : l.out.tokens
      ++ items_tokens (items_outline (items_of (map silent_end_json (map said_end (drop l.end-index l.ends)))))
      ≡ l.fn.out.tokens ++ tokens_of (silent_ends_json (map said_end l.ends));
  before : l.out.before ≡ l.fn.out.before;
  exact : Has64Bits (silent_ends_json (map said_end (drop l.end-index l.ends)))
      → Has64Bits (silent_ends_json (map said_end l.ends));
}
