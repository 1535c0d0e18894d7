-- A datagram of UDP (RFC 768) in a packet of IPv4 (RFC 791).
use Rattle.std.specs.Prelude.{ℕ, zero, suc, ◌+◌, List, [], ◌∷◌, ◌++◌, length}
use Rattle.std.specs.Int.{w8, w16, w32}
use Rattle.udp_capture.specs.declared.envelope.Endpoint.{Endpoint}
use Rattle.udp_capture.specs.Checksum.{checksum}
use Rattle.udp_capture.specs.Fields.{Header, header_bytes}

-- ---- UDP

-- the length of a datagram: its header of 8 bytes, and its payload
abbrev pub udp_length : List ℕ → ℕ
udp_length payload = 8 + length payload

-- the header of a datagram of this length, with this checksum
unfoldable pub udp_header : ℕ → ℕ → Endpoint → Endpoint → Header
udp_header len check source destination =
    (w16, source.port) ∷ (w16, destination.port)
    ∷ (w16, len) ∷ (w16, check) ∷ []

-- what the checksum covers before the header: the addresses, a zero, the number of UDP as a protocol of IP, the length
unfoldable pub pseudo_header : ℕ → Endpoint → Endpoint → Header
pseudo_header len source destination =
    (w32, source.address)
    ∷ (w32, destination.address)
    ∷ (w8, 0) ∷ (w8, 17) ∷ (w16, len) ∷ []

-- all that it covers: the pseudo header, the header with this checksum, and the payload
abbrev pub udp_covered : ℕ → Endpoint → Endpoint → List ℕ → List ℕ
udp_covered check source destination payload =
    header_bytes (pseudo_header (udp_length payload) source destination)
    ++ (header_bytes (udp_header (udp_length payload) check source destination) ++ payload)

-- a checksum of 0 is sent as all ones, since a 0 in the header says that there is none
abbrev pub sent_checksum : ℕ → ℕ
sent_checksum zero = 0xFFFF
sent_checksum (suc n) = suc n

-- the checksum of a datagram; where it is made, that in the header is 0
abbrev pub udp_checksum : Endpoint → Endpoint → List ℕ → ℕ
udp_checksum source destination payload = sent_checksum (checksum (udp_covered 0 source destination payload))

-- ---- IPv4

-- the total length of a packet: its header of 20 bytes, and the datagram
abbrev pub total_length : List ℕ → ℕ
total_length payload = 20 + udp_length payload

-- the header of a packet of this total length, with this checksum and no options (section 3.1)
unfoldable pub ip_header : ℕ → ℕ → Endpoint → Endpoint → Header
ip_header total check source destination =
    -- version 4, and the length of the header in words of 32 bits, which is 5; type of service; total length
    (w8, 0x45) ∷ (w8, 0) ∷ (w16, total)
    -- identification; flags, of which "don't fragment" alone is set, and fragment offset 0
    ∷ (w16, 0) ∷ (w16, 0x4000)
    -- time to live; protocol: UDP; checksum
    ∷ (w8, 64) ∷ (w8, 17) ∷ (w16, check)
    ∷ (w32, source.address)
    ∷ (w32, destination.address) ∷ []

-- the checksum of a header; where it is made, that in the header is 0
abbrev pub ip_checksum : ℕ → Endpoint → Endpoint → ℕ
ip_checksum total source destination = checksum (header_bytes (ip_header total 0 source destination))

-- the datagram of this payload in its packet
abbrev pub ip_packet : Endpoint → Endpoint → List ℕ → List ℕ
ip_packet source destination payload =
    header_bytes (ip_header (total_length payload) (ip_checksum (total_length payload) source destination)
    source destination)
    ++ (header_bytes (udp_header (udp_length payload) (udp_checksum source destination payload) source destination)
    ++ payload)
