use Rattle.std.proofs.Common.{arith}
use Rattle.trace_pcap.specs.Transmissions.{sending}
use Rattle.trace_pcap.proofs.Counted.{all_of, one_more}
use Rattle.trace_pcap.proofs.count.sendings_count.Goals as goal

pub loop-output-preserved : goal.loop-output-preserved
loop-output-preserved c = record {
  bound = omega (arith, c.loop-output.invariant.bound, c.sending_count-count.ensures.bound);
  so_far =
      λ second device. one_more (sending second device) c.args.outputs.now c.loop-output.output-index
      c.output-item.result c.loop-output.count c.sending_count-count.result c.loop-output-test.true
      c.output-item.is (c.loop-output.invariant.so_far second device)
      (c.sending_count-count.ensures.count second device);
}

pub returns-clause-count : goal.returns-clause-count
returns-clause-count c =
    λ second device. all_of (sending second device) c.args.outputs.now c.loop-output.output-index c.loop-output.count
    c.loop-output-test.false (c.loop-output.invariant.so_far second device)
