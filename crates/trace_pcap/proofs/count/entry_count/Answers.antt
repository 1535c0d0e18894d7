use Rattle.std.proofs.Common.{ap, length, length-append, ◌∙◌, arith}
use Rattle.std.specs.List.{flat_map}
use Rattle.fleet_core.specs.Run.{step_at}
use Rattle.trace_pcap.specs.Transmissions.{arrival, second_after, sending}
use Rattle.trace_pcap.proofs.count.entry_count.Goals as goal

pub returns-clause-count : goal.returns-clause-count
returns-clause-count c =
    let s = c.args.scenario.now in
    let e = c.args.entry.now in
    omega (
      arith,
      length-append (arrival (second_after s e) e.device (step_at s e.device e.step))
          (flat_map (sending (second_after s e) e.device) e.outputs),
      c.arrival_count-arrived.ensures.count (second_after s e) e.device
          ∙ ap (λ o. length (arrival (second_after s e) e.device o)) c.step_of.ensures,
      c.sendings_count-sent.ensures.count (second_after s e) e.device
          ∙ ap (λ os. length (flat_map (sending (second_after s e) e.device) os)) c.as_slice.ensures,
    )
