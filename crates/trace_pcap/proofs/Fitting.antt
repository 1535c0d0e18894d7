-- What the numbers and bytes of the code give fits the fields of a packet.
use Rattle.std.proofs.Common.{◌≡◌, ℕ, ◌<◌, ◌≤◌, ◌^◌, List, [], ◌∷◌, length, get_or, ap, ◌∙◌, arith}
use Rattle.std.specs.Prelude.{min}
use Rattle.std.specs.List.{AllByRecursion}
use Rattle.udp_capture.specs.declared.envelope.Endpoint.{Endpoint}
use Rattle.udp_capture.specs.Capture.{CapturedPacket, FitsEndpoint, FitsPacket, most_payload}
use Rattle.udp_capture.proofs.Words.{bytes_are}
use Rattle.trace_pcap.specs.Ends.{server_end, device_end}
use Rattle.trace_pcap.specs.Transmissions.{Transmission, received_transmission, sent_transmission}
use Rattle.trace_pcap.specs.Packets.{packet_of}

server_fits : (s : ℕ) → s < 65536 → FitsEndpoint (server_end s)
server_fits s fits = record { address = omega arith; port = omega arith }

device_fits : (d : ℕ) → d < 65536 → FitsEndpoint (device_end d)
device_fits d fits = record { address = omega arith; port = omega arith }

pub received_fits : (n second device server : ℕ) (bytes : List ℕ) → second < 2 ^ 32 → device < 65536 → server < 65536
    → length bytes ≤ most_payload → ((i : ℕ) → get_or bytes i 0 < 256)
    → FitsPacket (packet_of n (received_transmission second device server bytes))
received_fits n second device server bytes fs fd fv few fit = record {
  seconds = fs;
  microseconds = omega arith;
  source = server_fits server fv;
  destination = device_fits device fd;
  payload = few;
  bytes = bytes_are bytes fit;
}

pub sent_fits : (n second device server : ℕ) (bytes : List ℕ) → second < 2 ^ 32 → device < 65536 → server < 65536
    → length bytes ≤ most_payload → ((i : ℕ) → get_or bytes i 0 < 256)
    → FitsPacket (packet_of n (sent_transmission second device server bytes))
sent_fits n second device server bytes fs fd fv few fit = record {
  seconds = fs;
  microseconds = omega arith;
  source = device_fits device fd;
  destination = server_fits server fv;
  payload = few;
  bytes = bytes_are bytes fit;
}

abbrev pub captured : ℕ → ℕ → Endpoint → Endpoint → List ℕ → CapturedPacket
captured second micros source destination bytes = record {
  envelope = record { seconds = second; microseconds = micros; source = source; destination = destination };
  payload = bytes;
}

pub captured_same : (second m n : ℕ) (a b x y : Endpoint) (bytes : List ℕ) → m ≡ n → a ≡ x → b ≡ y
    → captured second m a b bytes ≡ captured second n x y bytes
captured_same second m n a b x y bytes em ea eb =
    ap (λ k. captured second k a b bytes) em ∙ ap (λ k. captured second n k b bytes) ea
    ∙ ap (λ k. captured second n x k bytes) eb
