-- What the outputs so far have, at most one each.
use Rattle.std.proofs.Common.{◌≡◌, ◌≤◌, ℕ, length, take}
use Rattle.std.specs.List.{flat_map}
use Rattle.trace_pcap.specs.Transmissions.{sending}
use Rattle.trace_pcap.proofs.count.sendings_count.Given as goal

abbrev pub invariant-loop-output : goal.invariant-loop-output
invariant-loop-output l = record {
  bound : l.count ≤ l.output-index;
  so_far : (second device : ℕ) → l.count ≡ length (flat_map (sending second device) (take l.output-index l.outputs));
}
