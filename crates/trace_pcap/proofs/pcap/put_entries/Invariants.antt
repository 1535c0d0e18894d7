-- The clocks are those of the scenario, and the datagrams of the entries so far are written.
use Rattle.std.proofs.Common.{◌≡◌, take}
use Rattle.trace_pcap.specs.Transmissions.{transmissions}
use Rattle.trace_pcap.specs.Written.{AreWritten}
use Rattle.trace_pcap.proofs.pcap.put_entries.Given as goal

abbrev pub invariant-loop-entry : goal.invariant-loop-entry
invariant-loop-entry l = record {
  scenario : l.clocks ≡ l.scenario;
  so_far : AreWritten l.fn.writer l.writer (transmissions l.scenario (take l.entry-index l.entries));
}
