use Rattle.std.proofs.Common.{arith}
use Rattle.trace_pcap.specs.Transmissions.{entry_transmissions}
use Rattle.trace_pcap.proofs.Counted.{all_of, one_more}
use Rattle.trace_pcap.proofs.count.transmission_count.Goals as goal

pub loop-entry-preserved : goal.loop-entry-preserved
loop-entry-preserved c = record {
  bound = omega (arith, c.loop-entry.invariant.bound, c.entry_count-count.ensures.bound);
  so_far =
      one_more (entry_transmissions c.args.scenario.now) c.args.entries.now c.loop-entry.entry-index
      c.entry-item.result c.loop-entry.count c.entry_count-count.result c.loop-entry-test.true c.entry-item.is
      c.loop-entry.invariant.so_far c.entry_count-count.ensures.count;
}

pub returns : goal.returns
returns c =
    all_of (entry_transmissions c.args.scenario.now) c.args.entries.now c.loop-entry.entry-index c.loop-entry.count
    c.loop-entry-test.false c.loop-entry.invariant.so_far
