use Rattle.trace_pcap.specs.Transmissions.{sending}
use Rattle.trace_pcap.specs.Packets.{is_long}
use Rattle.trace_pcap.proofs.Along.{part_written}
use Rattle.trace_pcap.proofs.Long.{part_short}
use Rattle.trace_pcap.proofs.writer.Writer.put_outputs.Goals as goal

pub put_output-requires : goal.put_output-requires
put_output-requires c =
    part_short is_long (sending c.args.second c.args.device) c.args.outputs.now c.loop-output.output-index
    c.output-item.result c.loop-output-test.true c.output-item.is c.requires

pub loop-output-preserved : goal.loop-output-preserved
loop-output-preserved c =
    part_written (sending c.args.second c.args.device) c.args.outputs.now c.loop-output.output-index
    c.output-item.result c.args.self.now c.loop-output.self c.put_output.new.self c.loop-output-test.true
    c.output-item.is c.loop-output.invariant c.in_ok-put_output.ensures
