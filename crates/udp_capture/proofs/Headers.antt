-- The words of headers, and what their checksums make of the sums.
use Rattle.std.proofs.Common.{◌≡◌, ◌≢◌, ℕ, zero, suc, ◌+◌, ◌-◌, ◌<◌, ◌≤◌, List, ◌++◌, length, refl, ap, subst, ◌∙◌}
use Rattle.std.proofs.Common.{arith}
use Rattle.std.specs.Prelude.{sum}
use Rattle.udp_capture.specs.declared.envelope.Endpoint.{Endpoint}
use Rattle.udp_capture.specs.Checksum.{ones_sum, sixteen_bit_words, checksum}
use Rattle.udp_capture.specs.Fields.{Header, header_bytes}
use Rattle.udp_capture.specs.Packet.{ip_header, ip_checksum, pseudo_header, udp_header, udp_length, udp_covered}
use Rattle.udp_capture.specs.Packet.{sent_checksum, udp_checksum}
use Rattle.udp_capture.proofs.Sums.{AreWords, Carries, sums, all_ones, all_ones_sent}
use Rattle.udp_capture.proofs.Words.{AreBytes, fields_fit, joined_bytes, words_fit, sum_below, words-append, sum-append}

-- ---- the words of a header

abbrev pub header_words : Header → List ℕ
header_words header = sixteen_bit_words (header_bytes header)

pub are_words : (header : Header) → AreWords (header_words header)
are_words header = words_fit (header_bytes header) (fields_fit header)

pseudo_length : (len : ℕ) (source destination : Endpoint)
    → length (header_bytes (pseudo_header len source destination)) ≡ 12
unfolding pseudo_header
pseudo_length len source destination = refl

udp_header_length : (len check : ℕ) (source destination : Endpoint)
    → length (header_bytes (udp_header len check source destination)) ≡ 8
unfolding udp_header
udp_header_length len check source destination = refl

-- what the checksum of UDP covers are words
pub covered_words : (check : ℕ) (source destination : Endpoint) (payload : List ℕ) → AreBytes payload
    → AreWords (sixteen_bit_words (udp_covered check source destination payload))
covered_words check source destination payload fit =
    let front = pseudo_header (udp_length payload) source destination in
    let header = udp_header (udp_length payload) check source destination in
    words_fit (udp_covered check source destination payload)
    (joined_bytes (header_bytes front) (header_bytes header ++ payload) (fields_fit front)
    (joined_bytes (header_bytes header) payload (fields_fit header) fit))

-- its sum, by its parts
pub covered_sum : (check : ℕ) (source destination : Endpoint) (payload : List ℕ)
    → sum (sixteen_bit_words (udp_covered check source destination payload))
    ≡ sum (header_words (pseudo_header (udp_length payload) source destination))
    + (sum (header_words (udp_header (udp_length payload) check source destination))
    + sum (sixteen_bit_words payload))
covered_sum check source destination payload =
    let front = pseudo_header (udp_length payload) source destination in
    let header = udp_header (udp_length payload) check source destination in
    let behind = header_bytes header ++ payload in
    ap sum (words-append 6 (header_bytes front) behind (pseudo_length (udp_length payload) source destination))
    ∙ sum-append (header_words front) (sixteen_bit_words behind)
    ∙ ap (λ n. sum (header_words front) + n)
    (ap sum (words-append 4 (header_bytes header) payload
    (udp_header_length (udp_length payload) check source destination))
    ∙ sum-append (header_words header) (sixteen_bit_words payload))

-- ---- sums of 32 bits

pub pseudo_below : (len : ℕ) (source destination : Endpoint)
    → sum (header_words (pseudo_header len source destination)) ≤ 1000000
pseudo_below len source destination =
    let front = pseudo_header len source destination in
    omega (arith, sum_below (header_bytes front) (fields_fit front), pseudo_length len source destination)

pub udp_below : (len check : ℕ) (source destination : Endpoint)
    → sum (header_words (udp_header len check source destination)) ≤ 1000000
udp_below len check source destination =
    let header = udp_header len check source destination in
    omega (arith, sum_below (header_bytes header) (fields_fit header), udp_header_length len check source destination)

-- ---- a checksum is one of the words

ip_with : (total check : ℕ) (source destination : Endpoint) → check < 65536
    → sum (header_words (ip_header total check source destination))
    ≡ sum (header_words (ip_header total 0 source destination)) + check
unfolding ip_header
ip_with total check source destination fits = omega arith

udp_with : (len check : ℕ) (source destination : Endpoint) → check < 65536
    → sum (header_words (udp_header len check source destination))
    ≡ sum (header_words (udp_header len 0 source destination)) + check
unfolding udp_header
udp_with len check source destination fits = omega arith

covered_with : (check : ℕ) (source destination : Endpoint) (payload : List ℕ) → check < 65536
    → sum (sixteen_bit_words (udp_covered check source destination payload))
    ≡ sum (sixteen_bit_words (udp_covered 0 source destination payload)) + check
covered_with check source destination payload fits =
    omega (
      arith,
      covered_sum check source destination payload,
      covered_sum 0 source destination payload,
      udp_with (udp_length payload) check source destination fits,
    )

-- ---- with it the sum is all ones

checksum_fits : (bytes : List ℕ) → checksum bytes < 65536
checksum_fits bytes = omega arith

pub ip_all_ones : (total : ℕ) (source destination : Endpoint)
    → ones_sum (header_words (ip_header total (ip_checksum total source destination) source destination)) ≡ 65535
ip_all_ones total source destination =
    let bare = ip_header total 0 source destination in
    let check = ip_checksum total source destination in
    let full = ip_header total check source destination in
    all_ones (sum (header_words bare)) (ones_sum (header_words bare)) check (ones_sum (header_words full))
    (sums (header_words bare) (are_words bare))
    (subst (λ n. Carries n (ones_sum (header_words full)))
    (ip_with total check source destination (checksum_fits (header_bytes bare)))
    (sums (header_words full) (are_words full))) refl

sent : (plain ones check result : ℕ) → Carries plain ones → check ≡ 65535 - ones
    → Carries (plain + sent_checksum check) result → result ≡ 65535
sent plain ones zero result c is d =
    let all : ones ≡ 65535 = omega (arith, c.within, is) in
    all_ones_sent plain result (subst (Carries plain) all c) d
sent plain ones (suc n) result c is d = all_ones plain ones (suc n) result c d is

-- one that is not 0 is sent as it is
pub sent_same : (check : ℕ) → check ≢ 0 → sent_checksum check ≡ check
sent_same zero some = absurd (some refl)
sent_same (suc n) some = refl

sent_fits : (check : ℕ) → check < 65536 → sent_checksum check < 65536
sent_fits zero fits = omega arith
sent_fits (suc n) fits = fits

pub udp_all_ones : (source destination : Endpoint) (payload : List ℕ) → AreBytes payload
    → ones_sum (sixteen_bit_words (udp_covered (udp_checksum source destination payload) source destination payload))
    ≡ 65535
udp_all_ones source destination payload fit =
    let computed = checksum (udp_covered 0 source destination payload) in
    let bare = sixteen_bit_words (udp_covered 0 source destination payload) in
    let check = udp_checksum source destination payload in
    let full = sixteen_bit_words (udp_covered check source destination payload) in
    sent (sum bare) (ones_sum bare) computed (ones_sum full)
    (sums bare (covered_words 0 source destination payload fit)) refl
    (subst (λ n. Carries n (ones_sum full))
    (covered_with check source destination payload
    (sent_fits computed (checksum_fits (udp_covered 0 source destination payload))))
    (sums full (covered_words check source destination payload fit)))
