-- Packets that are spelled alike are alike.
use Rattle.std.proofs.Common.{◌≡◌, ℕ, ◌+◌, ◌^◌, ◌<◌, List, [], ◌∷◌, ◌++◌, drop, refl, sym, ap, ◌∙◌}
use Rattle.std.proofs.Common.{◌/◌, ◌%◌, append_assoc, arith}
use Rattle.std.specs.Int.{w16, w32, to_be_bytes}
use Rattle.std.specs.List.{flat_map, AllByRecursion}
use Rattle.std.proofs.lemmas.List.{append_cancel_left}
use Rattle.lemmas.proofs.Lists.{same_parts}
use Rattle.udp_capture.specs.declared.envelope.Endpoint.{Endpoint}
use Rattle.udp_capture.specs.declared.envelope.Envelope.{Envelope}
use Rattle.udp_capture.specs.Fields.{header_bytes}
use Rattle.udp_capture.specs.Packet.{ip_header, ip_checksum, udp_header, udp_checksum, udp_length, total_length}
use Rattle.udp_capture.specs.Capture.{CapturedPacket, FitsEndpoint, FitsPacket, IsCapture, file_header, record_header}
use Rattle.udp_capture.specs.Capture.{packet_record}

-- ---- single fields

four : (m n : ℕ) (r s : List ℕ) → m < 2 ^ 32 → n < 2 ^ 32 → to_be_bytes w32 m ++ r ≡ to_be_bytes w32 n ++ s
    → (m ≡ n) × (r ≡ s)
four m n r s fm fn e =
    let e3 : m / 256 ^ 3 % 256 ≡ n / 256 ^ 3 % 256 = cc in
    let e2 : m / 256 ^ 2 % 256 ≡ n / 256 ^ 2 % 256 = cc in
    let e1 : m / 256 ^ 1 % 256 ≡ n / 256 ^ 1 % 256 = cc in
    let e0 : m % 256 ≡ n % 256 = cc in
    (omega arith, cc)

two : (m n : ℕ) (r s : List ℕ) → m < 2 ^ 16 → n < 2 ^ 16 → to_be_bytes w16 m ++ r ≡ to_be_bytes w16 n ++ s
    → (m ≡ n) × (r ≡ s)
two m n r s fm fn e =
    let e1 : m / 256 ^ 1 % 256 ≡ n / 256 ^ 1 % 256 = cc in
    let e0 : m % 256 ≡ n % 256 = cc in
    (omega arith, cc)

-- ---- headers, with what stands after them

record_alike : (e f : Envelope) (m n : ℕ) (r s : List ℕ) → e.seconds < 2 ^ 32 → f.seconds < 2 ^ 32
    → e.microseconds < 2 ^ 32 → f.microseconds < 2 ^ 32 → m < 2 ^ 32 → n < 2 ^ 32
    → header_bytes (record_header e m) ++ r ≡ header_bytes (record_header f n) ++ s
    → (e.seconds ≡ f.seconds) × (e.microseconds ≡ f.microseconds) × (m ≡ n) × (r ≡ s)
unfolding record_header
record_alike e f m n r s fe ff ge gf fm fn same =
    let seconds = four e.seconds f.seconds _ _ fe ff same in
    let micros = four e.microseconds f.microseconds _ _ ge gf seconds.1 in
    let kept = four m n _ _ fm fn micros.1 in
    (seconds.0, micros.0, kept.0, (four m n r s fm fn kept.1).1)

ip_alike : (t u c d : ℕ) (a b v w : Endpoint) (r s : List ℕ) → FitsEndpoint a → FitsEndpoint b → FitsEndpoint v
    → FitsEndpoint w → header_bytes (ip_header t c a b) ++ r ≡ header_bytes (ip_header u d v w) ++ s
    → (a.address ≡ v.address) × (b.address ≡ w.address) × (r ≡ s)
unfolding ip_header
ip_alike t u c d a b v w r s fa fb fv fw same =
    let sources = four a.address v.address _ _ fa.address fv.address (ap (λ l. drop 12 l) same) in
    let destinations = four b.address w.address r s fb.address fw.address sources.1 in
    (sources.0, destinations.0, destinations.1)

udp_alike : (t u c d : ℕ) (a b v w : Endpoint) (r s : List ℕ) → FitsEndpoint a → FitsEndpoint b → FitsEndpoint v
    → FitsEndpoint w → header_bytes (udp_header t c a b) ++ r ≡ header_bytes (udp_header u d v w) ++ s
    → (a.port ≡ v.port) × (b.port ≡ w.port) × (r ≡ s)
unfolding udp_header
udp_alike t u c d a b v w r s fa fb fv fw same =
    let sources = two a.port v.port _ _ fa.port fv.port same in
    let destinations = two b.port w.port _ _ fb.port fw.port sources.1 in
    (sources.0, destinations.0, ap (λ l. drop 4 l) destinations.1)

-- ---- packets

made : ℕ → ℕ → ℕ → ℕ → ℕ → ℕ → List ℕ → CapturedPacket
made seconds micros address port to_address to_port payload = record {
  envelope = record {
    seconds = seconds;
    microseconds = micros;
    source = record { address = address; port = port };
    destination = record { address = to_address; port = to_port };
  };
  payload = payload;
}

packet_is : (p q : CapturedPacket) → p.envelope.seconds ≡ q.envelope.seconds
    → p.envelope.microseconds ≡ q.envelope.microseconds → p.envelope.source.address ≡ q.envelope.source.address
    → p.envelope.source.port ≡ q.envelope.source.port
    → p.envelope.destination.address ≡ q.envelope.destination.address
    → p.envelope.destination.port ≡ q.envelope.destination.port → p.payload ≡ q.payload → p ≡ q
unfolding made
packet_is p q s m sa sp da dp payload =
    let e = p.envelope in
    let f = q.envelope in
    ap (λ x. made x e.microseconds e.source.address e.source.port e.destination.address e.destination.port p.payload) s
    ∙ ap (λ x. made f.seconds x e.source.address e.source.port e.destination.address e.destination.port p.payload) m
    ∙ ap (λ x. made f.seconds f.microseconds x e.source.port e.destination.address e.destination.port p.payload) sa
    ∙ ap (λ x. made f.seconds f.microseconds f.source.address x e.destination.address e.destination.port p.payload) sp
    ∙ ap (λ x. made f.seconds f.microseconds f.source.address f.source.port x e.destination.port p.payload) da
    ∙ ap (λ x. made f.seconds f.microseconds f.source.address f.source.port f.destination.address x p.payload) dp
    ∙ ap (λ x. made f.seconds f.microseconds f.source.address f.source.port f.destination.address f.destination.port x)
    payload

-- what stands after a header, and after it
parted : (a b c d r : List ℕ) → (a ++ (b ++ (c ++ d))) ++ r ≡ a ++ (b ++ (c ++ (d ++ r)))
parted a b c d r = simp append_assoc

abbrev pub ip_check : CapturedPacket → ℕ
ip_check p = ip_checksum (total_length p.payload) p.envelope.source p.envelope.destination

abbrev pub udp_check : CapturedPacket → ℕ
udp_check p = udp_checksum p.envelope.source p.envelope.destination p.payload

-- the headers of a packet
abbrev pub record_of : CapturedPacket → List ℕ
record_of p = header_bytes (record_header p.envelope (total_length p.payload))

abbrev pub ip_of : CapturedPacket → List ℕ
ip_of p =
    header_bytes (ip_header (total_length p.payload) (ip_check p) p.envelope.source p.envelope.destination)

abbrev pub udp_of : CapturedPacket → List ℕ
udp_of p = header_bytes (udp_header (udp_length p.payload) (udp_check p) p.envelope.source p.envelope.destination)

packet_alike : (p q : CapturedPacket) (r s : List ℕ) → FitsPacket p → FitsPacket q
    → packet_record p ++ r ≡ packet_record q ++ s → (p ≡ q) × (r ≡ s)
packet_alike p q r s fp fq same =
    let whole = sym (parted (record_of p) (ip_of p) (udp_of p) p.payload r)
    ∙ (same ∙ parted (record_of q) (ip_of q) (udp_of q) q.payload s) in
    let records =
    record_alike p.envelope q.envelope (total_length p.payload) (total_length q.payload)
    (ip_of p ++ (udp_of p ++ (p.payload ++ r))) (ip_of q ++ (udp_of q ++ (q.payload ++ s))) fp.seconds fq.seconds
    fp.microseconds fq.microseconds (omega (arith, fp.payload)) (omega (arith, fq.payload)) whole in
    let ips = ip_alike (total_length p.payload) (total_length q.payload) (ip_check p) (ip_check q) p.envelope.source
    p.envelope.destination q.envelope.source q.envelope.destination (udp_of p ++ (p.payload ++ r))
    (udp_of q ++ (q.payload ++ s)) fp.source fp.destination fq.source fq.destination records.3 in
    let udps = udp_alike (udp_length p.payload) (udp_length q.payload) (udp_check p) (udp_check q) p.envelope.source
    p.envelope.destination q.envelope.source q.envelope.destination (p.payload ++ r) (q.payload ++ s) fp.source
    fp.destination fq.source fq.destination ips.2 in
    let rest = same_parts p.payload q.payload r s (omega (arith, records.2)) udps.2 in
    (packet_is p q records.0 records.1 ips.0 udps.0 ips.1 udps.1 rest.0, rest.1)

no_packet : (p : CapturedPacket) (r : List ℕ) → [] ≡ packet_record p ++ r → ⊥
unfolding record_header
no_packet p r same = cc

all_alike : (ps qs : List CapturedPacket) → AllByRecursion FitsPacket ps → AllByRecursion FitsPacket qs
    → flat_map packet_record ps ≡ flat_map packet_record qs → ps ≡ qs
all_alike [] [] fp fq same = refl
all_alike [] (q ∷ qs) fp fq same = absurd (no_packet q (flat_map packet_record qs) same)
all_alike (p ∷ ps) [] fp fq same = absurd (no_packet p (flat_map packet_record ps) (sym same))
all_alike (p ∷ ps) (q ∷ qs) fp fq same =
    let first = packet_alike p q (flat_map packet_record ps) (flat_map packet_record qs) fp.0 fq.0 same in
    ap (λ l. p ∷ l) (all_alike ps qs fp.1 fq.1 first.1) ∙ ap (λ x. x ∷ qs) first.0

pub one_list : (bytes : List ℕ) (ps qs : List CapturedPacket) → IsCapture bytes ps → IsCapture bytes qs → ps ≡ qs
one_list bytes ps qs a b =
    all_alike ps qs a.fit b.fit
    (append_cancel_left (header_bytes file_header) (flat_map packet_record ps) (flat_map packet_record qs)
    (sym a.spelled ∙ b.spelled))
