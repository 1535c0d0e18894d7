use Rattle.std.proofs.Common.{sym}
use Rattle.trace_pcap.specs.Transmissions.{entry_transmissions}
use Rattle.trace_pcap.specs.Packets.{is_long}
use Rattle.trace_pcap.proofs.Long.{part_long, short_more, none_left}
use Rattle.trace_pcap.proofs.limit.has_long.Goals as goal

pub returns-then-entry_has_long : goal.returns-then-entry_has_long
returns-then-entry_has_long c =
    sym (part_long is_long (entry_transmissions c.args.scenario.now) c.args.entries.now c.loop-entry.entry-index
    c.entry-item.result c.loop-entry-test.true c.entry-item.is (sym c.if-entry_has_long.ensures))

pub loop-entry-preserved : goal.loop-entry-preserved
loop-entry-preserved c =
    short_more is_long (entry_transmissions c.args.scenario.now) c.args.entries.now c.loop-entry.entry-index
    c.entry-item.result c.loop-entry-test.true c.entry-item.is c.loop-entry.invariant
    (sym c.if-entry_has_long.ensures)

pub returns : goal.returns
returns c =
    sym (none_left is_long (entry_transmissions c.args.scenario.now) c.args.entries.now c.loop-entry.entry-index
    c.loop-entry-test.false c.loop-entry.invariant)
