-- a message without options: after its token stands its payload
use Rattle.std.proofs.Common.{◌≡◌, ◌+◌, ℕ, List, [], ◌∷◌, ◌++◌, drop, ap, ◌∙◌, None}
use Rattle.std.proofs.Common.{arith, ◌-◌, ◌*◌, ◌<◌, length}
use Rattle.coap_codec.specs.declared.option.Opt.{Opt}
use Rattle.coap_codec.specs.Message.{Message, Spells, options_bytes, payload_bytes, nibble_of}
use Rattle.coap_codec.specs.Fault.{token_length, header_fault}
use Rattle.coap_codec.proofs.Amounts.{nibble_below}
use Rattle.coap_codec.proofs.OneReading.{spelling_clear, spelling_tail}

-- bytes that spell a message without options have no fault before its payload, and this after its token
pub no_option : (bytes : List ℕ) (m : Message) → Spells bytes m → m.options ≡ []
    → (header_fault bytes ≡ None) × (drop (4 + token_length bytes) bytes ≡ payload_bytes m.payload)
no_option bytes m spells none = (
  ap header_fault spells.parts ∙ spelling_clear m spells.well_formed,
  ap (λ b. drop (4 + token_length b) b) spells.parts ∙ (spelling_tail m spells.well_formed
      ∙ ap (λ os. options_bytes 0 os ++ payload_bytes m.payload) none),
)

-- no option begins with the byte of the marker
pub payload_alone : (os : List Opt) (rest payload bytes : List ℕ) → bytes ≡ options_bytes 0 os ++ rest
    → bytes ≡ payload_bytes payload → rest ≡ payload_bytes payload
payload_alone [] rest payload bytes parts is = cc (parts, is)
payload_alone (o ∷ os) rest [] bytes parts is = absurd (cc (parts, is))
payload_alone (o ∷ os) rest (b ∷ payload) bytes parts is =
    let high = nibble_below (o.number - 0) in
    let low = nibble_below (length o.value) in
    let same : 16 * nibble_of (o.number - 0) + nibble_of (length o.value) ≡ 255 = cc (parts, is) in
    absurd (omega (arith, high, low, same))

marker_split : (first : ℕ) (rest after payload : List ℕ) → rest ≡ payload_bytes payload → rest ≡ first ∷ after
    → (first ≡ 255) × (after ≡ payload) × (0 < length after)
marker_split first rest after [] is here = absurd (cc (is, here))
marker_split first rest after (b ∷ payload) is here =
    let same : after ≡ b ∷ payload = cc (is, here) in
    (cc (is, here), same, omega (arith, ap length same))

-- what stands after whole options, where all the bytes are a marker and a payload
pub marker_first : (os : List Opt) (first : ℕ) (rest after payload bytes : List ℕ) → bytes ≡ options_bytes 0 os ++ rest
    → rest ≡ first ∷ after → bytes ≡ payload_bytes payload
    → (first ≡ 255) × (after ≡ payload) × (0 < length after)
marker_first os first rest after payload bytes parts here is =
    marker_split first rest after payload (payload_alone os rest payload bytes parts is) here

nothing_split : (rest payload : List ℕ) → rest ≡ payload_bytes payload → length rest ≡ 0 → rest ≡ payload
nothing_split rest [] is end = is
nothing_split rest (b ∷ payload) is end = absurd (omega (arith, ap length is))

pub nothing_left : (os : List Opt) (rest payload bytes : List ℕ) → bytes ≡ options_bytes 0 os ++ rest
    → bytes ≡ payload_bytes payload → length rest ≡ 0 → rest ≡ payload
nothing_left os rest payload bytes parts is end =
    nothing_split rest payload (payload_alone os rest payload bytes parts is) end
