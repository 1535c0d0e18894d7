use Rattle.std.proofs.Common.{false, ap, ◌∙◌}
use Rattle.std.specs.List.{list_any}
use Rattle.trace_pcap.specs.Transmissions.{arrival, sending}
use Rattle.trace_pcap.specs.Packets.{is_long}
use Rattle.trace_pcap.proofs.Long.{entry_long}
use Rattle.trace_pcap.proofs.limit.entry_has_long.Goals as goal

pub returns-else-has_long_arrival : goal.returns-else-has_long_arrival
returns-else-has_long_arrival c =
    entry_long c.args.scenario.now c.args.entry.now false c.has_long_output.result
    (c.if-has_long_arrival.ensures ∙ ap (λ o. list_any is_long (arrival 0 0 o)) c.step_of.ensures)
    (c.has_long_output.ensures ∙ ap (list_any (λ o. list_any is_long (sending 0 0 o))) c.as_slice.ensures)
