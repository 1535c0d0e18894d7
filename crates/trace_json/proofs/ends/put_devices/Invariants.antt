-- What is written, and what is still to come; the numbers in it are exact.
use Rattle.std.proofs.Common.{◌≡◌, ◌++◌, drop, map}
use Rattle.json.specs.Tree.{items_tokens}
use Rattle.serde_json.specs.View.{items_of}
use Rattle.serde_json.specs.Written.{items_outline}
use Rattle.trace_json.specs.Json.{list_json, number_json}
use Rattle.trace_json.specs.Writing.{Has64Bits, tokens_of}
use Rattle.trace_json.proofs.ends.put_devices.Given as goal

abbrev pub invariant-loop-device : goal.invariant-loop-device
invariant-loop-device l = record {
  so_far : l.out.tokens ++ items_tokens (items_outline (items_of (map number_json (drop l.device-index l.devices))))
      ≡ l.fn.out.tokens ++ tokens_of (list_json (map number_json l.devices));
  before : l.out.before ≡ l.fn.out.before;
  exact : Has64Bits (list_json (map number_json (drop l.device-index l.devices)))
      → Has64Bits (list_json (map number_json l.devices));
}
