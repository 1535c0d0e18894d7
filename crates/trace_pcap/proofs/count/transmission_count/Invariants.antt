-- What the entries so far have, at most 2^64 each.
use Rattle.std.proofs.Common.{◌≡◌, ◌≤◌, ◌*◌, ◌^◌, length, take}
use Rattle.trace_pcap.specs.Transmissions.{transmissions}
use Rattle.trace_pcap.proofs.count.transmission_count.Given as goal

abbrev pub invariant-loop-entry : goal.invariant-loop-entry
invariant-loop-entry l = record {
  bound : l.count ≤ l.entry-index * 2 ^ 64;
  so_far : l.count ≡ length (transmissions l.scenario (take l.entry-index l.entries));
}
