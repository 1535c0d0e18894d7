-- Packets in a capture file, of the classic format of libpcap: its first number says that all are big-endian.
use Rattle.std.specs.Prelude.{◌≡◌, ℕ, ◌^◌, ◌<◌, ◌≤◌, List, [], ◌∷◌, ◌++◌, length}
use Rattle.std.specs.Int.{w16, w32}
use Rattle.std.specs.List.{flat_map, AllByRecursion}
use Rattle.udp_capture.specs.declared.envelope.Endpoint.{Endpoint}
use Rattle.udp_capture.specs.declared.envelope.Envelope.{Envelope}
use Rattle.udp_capture.specs.Fields.{Header, header_bytes}
use Rattle.udp_capture.specs.Packet.{ip_packet, total_length}

-- a datagram of UDP that was captured
pub record CapturedPacket : Type 0 where
  pub envelope : Envelope
  pub payload : List ℕ

-- the header of the file
unfoldable pub file_header : Header
file_header =
    -- the mark of a file whose times have microseconds
    (w32, 0xA1B2C3D4)
    -- version 2.4
    ∷ (w16, 2) ∷ (w16, 4)
    -- the zone of the times, and their accuracy
    ∷ (w32, 0) ∷ (w32, 0)
    -- the snapshot length: how many bytes of a packet are kept at most
    ∷ (w32, 65535)
    -- the link type: raw IP, so that a packet begins with the header of IP
    ∷ (w32, 101) ∷ []

-- the header of a packet of this length, of which all bytes are kept
unfoldable pub record_header : Envelope → ℕ → Header
record_header envelope len =
    (w32, envelope.seconds) ∷ (w32, envelope.microseconds)
    -- how many bytes of the packet are kept, and how many it has
    ∷ (w32, len) ∷ (w32, len) ∷ []

-- a packet after its header
abbrev pub packet_record : CapturedPacket → List ℕ
packet_record p =
    header_bytes (record_header p.envelope (total_length p.payload))
    ++ ip_packet p.envelope.source p.envelope.destination p.payload

-- the file of these packets, in their order
abbrev pub capture_bytes : List CapturedPacket → List ℕ
capture_bytes packets = header_bytes file_header ++ flat_map packet_record packets

-- the most bytes that a datagram of UDP carries in a packet of IPv4, whose total length is a number of 16 bits
abbrev pub most_payload : ℕ
most_payload = 65507

-- an address has 32 bits, a port 16
pub record FitsEndpoint (e : Endpoint) : Type 0 where
  pub address : e.address < 2 ^ 32
  pub port : e.port < 2 ^ 16

-- each number fits its field, and the payload is bytes, no more than a packet carries
pub record FitsPacket (p : CapturedPacket) : Type 0 where
  pub seconds : p.envelope.seconds < 2 ^ 32
  pub microseconds : p.envelope.microseconds < 2 ^ 32
  pub source : FitsEndpoint p.envelope.source
  pub destination : FitsEndpoint p.envelope.destination
  pub payload : length p.payload ≤ most_payload
  pub bytes : AllByRecursion (λ b. b < 256) p.payload

-- the bytes are the capture file of these packets
pub record IsCapture (bytes : List ℕ) (packets : List CapturedPacket) : Type 0 where
  pub fit : AllByRecursion FitsPacket packets
  pub spelled : bytes ≡ capture_bytes packets
