-- The packets of a trace.
use Rattle.std.specs.Prelude.{ℕ, ◌+◌, Bool, List, [], ◌∷◌, length, nat_lt, min, if◌then◌else◌}
use Rattle.std.specs.List.{list_any}
use Rattle.scenario_image.specs.Scenario.{Scenario}
use Rattle.trace_file.specs.declared.entry.Entry.{Entry}
use Rattle.udp_capture.specs.declared.envelope.Endpoint.{Endpoint}
use Rattle.udp_capture.specs.Capture.{CapturedPacket, most_payload}
use Rattle.trace_pcap.specs.Ends.{server_end, device_end}
use Rattle.trace_pcap.specs.Transmissions.{Transmission, transmissions}

abbrev pub source_of : Transmission → Endpoint
source_of t = if t.is_received then server_end t.server else device_end t.device

abbrev pub destination_of : Transmission → Endpoint
destination_of t = if t.is_received then device_end t.device else server_end t.server

-- the packet of a datagram before which a capture has n others. Its time is the second of the device's clock; the
-- microseconds keep the order of the first million packets
abbrev pub packet_of : ℕ → Transmission → CapturedPacket
packet_of n t = record {
  envelope = record {
    seconds = t.second;
    microseconds = min n 999999;
    source = source_of t;
    destination = destination_of t;
  };
  payload = t.bytes;
}

-- the packets of datagrams in their order; before the first there are n others
abbrev pub packets_from : ℕ → List Transmission → List CapturedPacket
packets_from n [] = []
packets_from n (t ∷ ts) = packet_of n t ∷ packets_from (n + 1) ts

-- the packets of a trace
abbrev pub trace_packets : Scenario → List Entry → List CapturedPacket
trace_packets s es = packets_from 0 (transmissions s es)

-- the datagram has more bytes than a packet carries
abbrev pub is_long : Transmission → Bool
is_long t = nat_lt most_payload (length t.bytes)

-- a datagram of the trace has no packet
abbrev pub has_long : Scenario → List Entry → Bool
has_long s es = list_any is_long (transmissions s es)
