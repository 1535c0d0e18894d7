-- No datagram of the entries so far is too long.
use Rattle.std.proofs.Common.{◌≡◌, false, take}
use Rattle.std.specs.List.{list_any}
use Rattle.trace_pcap.specs.Transmissions.{transmissions}
use Rattle.trace_pcap.specs.Packets.{is_long}
use Rattle.trace_pcap.proofs.limit.has_long.Given as goal

abbrev pub invariant-loop-entry : goal.invariant-loop-entry
invariant-loop-entry l = list_any is_long (transmissions l.scenario (take l.entry-index l.entries)) ≡ false
