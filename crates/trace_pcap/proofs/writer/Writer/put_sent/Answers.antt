use Rattle.std.proofs.Common.{◌++◌, ap, ◌∙◌, arith}
use Rattle.std.specs.Prelude.{min}
use Rattle.udp_capture.specs.Capture.{packet_record}
use Rattle.trace_pcap.specs.Ends.{server_end, device_end}
use Rattle.trace_pcap.specs.Transmissions.{sent_transmission}
use Rattle.trace_pcap.proofs.Along.{one_written}
use Rattle.trace_pcap.proofs.Fitting.{sent_fits, captured_same}
use Rattle.trace_pcap.proofs.writer.Writer.put_sent.Goals as goal

pub returns : goal.returns
returns c =
    let bytes = c.args.bytes.now in
    let old = c.args.self.now in
    one_written old _ (sent_transmission c.args.second c.args.device c.args.server bytes)
    (sent_fits old.microseconds c.args.second c.args.device c.args.server bytes c.ranges.second.fits
    c.ranges.device.fits c.ranges.server.fits c.requires (λ i. omega (arith, c.type_inv.bytes i)))
    (c.in_ok-put_packet.ensures
    ∙ ap (λ p. old.out.items ++ packet_record p)
    (captured_same c.args.second c.min.result (min old.microseconds 999999) c.device_end.result c.server_end.result
    (device_end c.args.device) (server_end c.args.server) bytes c.min.ensures
    c.device_end.ensures c.server_end.ensures))
    c.next_of-self.ensures
