-- What the packets of a trace tell.
use Rattle.std.proofs.Common.{◌≡◌, ℕ, ◌+◌, Bool, true, false, List, [], ◌∷◌, refl, sym, ap, ◌∙◌, arith}
use Rattle.std.specs.Prelude.{map, if◌then◌else◌}
use Rattle.scenario_image.specs.Scenario.{Scenario}
use Rattle.trace_file.specs.declared.entry.Entry.{Entry}
use Rattle.udp_capture.specs.declared.envelope.Endpoint.{Endpoint}
use Rattle.udp_capture.specs.Capture.{IsCapture}
use Rattle.udp_capture.proofs.Spelled.{one_list}
use Rattle.trace_pcap.specs.Ends.{server_end, device_end}
use Rattle.trace_pcap.specs.Transmissions.{Transmission, transmissions}
use Rattle.trace_pcap.specs.Packets.{packet_of, packets_from, trace_packets}

pub payloads : (n : ℕ) (ts : List Transmission) → map (λ p. p.payload) (packets_from n ts) ≡ map (λ t. t.bytes) ts
payloads n [] = refl
payloads n (t ∷ ts) = ap (λ l. t.bytes ∷ l) (payloads (n + 1) ts)

-- ---- ends

server_alike : (s r : ℕ) → server_end s ≡ server_end r → s ≡ r
server_alike s r same = omega (arith, ap (λ e. e.address) same)

device_alike : (d e : ℕ) → device_end d ≡ device_end e → d ≡ e
device_alike d e same = omega (arith, ap (λ x. x.address) same)

-- no port is a server's and a device's
other_ends : (s d : ℕ) → server_end s ≡ device_end d → ⊥
other_ends s d same = omega (arith, ap (λ e. e.port) same)

ends_alike : (b c : Bool) (s r d e : ℕ)
    → (if b then server_end s else device_end d) ≡ (if c then server_end r else device_end e)
    → (if b then device_end d else server_end s) ≡ (if c then device_end e else server_end r)
    → (b ≡ c) × (s ≡ r) × (d ≡ e)
ends_alike true true s r d e from to = (refl, server_alike s r from, device_alike d e to)
ends_alike true false s r d e from to = absurd (other_ends s e from)
ends_alike false true s r d e from to = absurd (other_ends r d (sym from))
ends_alike false false s r d e from to = (refl, server_alike s r to, device_alike d e from)

-- ---- packets

made : ℕ → ℕ → ℕ → Bool → List ℕ → Transmission
made second device server is_received bytes = record {
  second = second;
  device = device;
  server = server;
  is_received = is_received;
  bytes = bytes;
}

transmission_is : (t u : Transmission) → t.second ≡ u.second → t.device ≡ u.device → t.server ≡ u.server
    → t.is_received ≡ u.is_received → t.bytes ≡ u.bytes → t ≡ u
unfolding made
transmission_is t u second device server way bytes =
    ap (λ x. made x t.device t.server t.is_received t.bytes) second
    ∙ ap (λ x. made u.second x t.server t.is_received t.bytes) device
    ∙ ap (λ x. made u.second u.device x t.is_received t.bytes) server
    ∙ ap (λ x. made u.second u.device u.server x t.bytes) way
    ∙ ap (λ x. made u.second u.device u.server u.is_received x) bytes

transmission_alike : (n : ℕ) (t u : Transmission) → packet_of n t ≡ packet_of n u → t ≡ u
transmission_alike n t u same =
    let ends = ends_alike t.is_received u.is_received t.server u.server t.device u.device
    (ap (λ p. p.envelope.source) same) (ap (λ p. p.envelope.destination) same) in
    transmission_is t u (ap (λ p. p.envelope.seconds) same) ends.2 ends.1 ends.0 (ap (λ p. p.payload) same)

transmissions_alike : (n : ℕ) (ts us : List Transmission) → packets_from n ts ≡ packets_from n us → ts ≡ us
transmissions_alike n [] [] same = refl
transmissions_alike n [] (u ∷ us) same = absurd cc
transmissions_alike n (t ∷ ts) [] same = absurd cc
transmissions_alike n (t ∷ ts) (u ∷ us) same =
    let first : packet_of n t ≡ packet_of n u = cc in
    let rest : packets_from (n + 1) ts ≡ packets_from (n + 1) us = cc in
    ap (λ l. t ∷ l) (transmissions_alike (n + 1) ts us rest) ∙ ap (λ x. x ∷ us) (transmission_alike n t u first)

pub traces_alike : (bytes : List ℕ) (s : Scenario) (es : List Entry) (r : Scenario) (fs : List Entry)
    → IsCapture bytes (trace_packets s es) → IsCapture bytes (trace_packets r fs)
    → transmissions s es ≡ transmissions r fs
traces_alike bytes s es r fs a b =
    transmissions_alike 0 (transmissions s es) (transmissions r fs)
    (one_list bytes (trace_packets s es) (trace_packets r fs) a b)
