-- What a capture's writer has written between two moments.
use Rattle.std.specs.Prelude.{◌≡◌, ◌+◌, List, ◌++◌, length, min}
use Rattle.std.specs.List.{flat_map, AllByRecursion}
use Rattle.udp_capture.specs.Capture.{FitsPacket, packet_record}
use Rattle.trace_pcap.specs.declared.writer.Writer.{Writer}
use Rattle.trace_pcap.specs.Transmissions.{Transmission}
use Rattle.trace_pcap.specs.Packets.{packets_from}

-- these datagrams, each as a packet that fits its fields; the microseconds count them, up to the last one of a second
pub record AreWritten (old new : Writer) (ts : List Transmission) : Type 0 where
  pub fit : AllByRecursion FitsPacket (packets_from old.microseconds ts)
  pub bytes : new.out.items ≡ old.out.items ++ flat_map packet_record (packets_from old.microseconds ts)
  pub counted : min new.microseconds 999999 ≡ min (old.microseconds + length ts) 999999
