-- The datagrams of the outputs so far are written.
use Rattle.std.proofs.Common.{take}
use Rattle.std.specs.List.{flat_map}
use Rattle.trace_pcap.specs.Transmissions.{sending}
use Rattle.trace_pcap.specs.Written.{AreWritten}
use Rattle.trace_pcap.proofs.writer.Writer.put_outputs.Given as goal

abbrev pub invariant-loop-output : goal.invariant-loop-output
invariant-loop-output l =
    AreWritten l.fn.self l.self (flat_map (sending l.second l.device) (take l.output-index l.outputs))
