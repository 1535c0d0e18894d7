use Rattle.std.proofs.Common.{◌+◌, ap, ◌∙◌}
use Rattle.std.specs.Option.{option_copied}
use Rattle.trace_text.specs.Seconds.{second_at}
use Rattle.trace_pcap.proofs.Along.{entry_written}
use Rattle.trace_pcap.proofs.pcap.put_entry.Goals as goal

pub returns-clause-written : goal.returns-clause-written
returns-clause-written c =
    let e = c.args.entry.now in
    entry_written c.args.scenario.now e c.args.writer.now c.put_arrival.new.self c.put_outputs.new.self
    c.second_at-second.result (option_copied c.step_of-step.result) c.as_slice.result.now
    (c.second_at-second.ensures.second ∙ ap (λ s. second_at s e.device (e.step + 1)) c.requires.clocks)
    c.step_of-step.ensures c.as_slice.ensures c.in_ok-put_arrival.ensures c.in_ok-put_outputs.ensures
