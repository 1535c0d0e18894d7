use Rattle.std.proofs.Common.{◌∙◌}
use Rattle.trace_pcap.specs.Transmissions.{entry_transmissions}
use Rattle.trace_pcap.specs.Packets.{is_long}
use Rattle.trace_pcap.proofs.Along.{part_written}
use Rattle.trace_pcap.proofs.Long.{part_short}
use Rattle.trace_pcap.proofs.pcap.put_entries.Goals as goal

pub put_entry-requires-clause-short : goal.put_entry-requires-clause-short
put_entry-requires-clause-short c =
    part_short is_long (entry_transmissions c.args.scenario.now) c.args.entries.now c.loop-entry.entry-index
    c.entry-item.result c.loop-entry-test.true c.entry-item.is c.requires

pub loop-entry-preserved : goal.loop-entry-preserved
loop-entry-preserved c = record {
  scenario = c.put_entry.ensures.same ∙ c.loop-entry.invariant.scenario;
  so_far = part_written (entry_transmissions c.args.scenario.now) c.args.entries.now c.loop-entry.entry-index
      c.entry-item.result c.args.writer.now c.loop-entry.writer c.put_entry.new.writer c.loop-entry-test.true
      c.entry-item.is c.loop-entry.invariant.so_far c.in_ok-put_entry.ensures.written;
}
