use Rattle.std.specs.Prelude.{◌≡◌, ℕ, ◌+◌, ◌-◌, ◌*◌, ◌/◌, ◌%◌, ◌<◌, ◌≤◌, List, [], ◌∷◌, ◌++◌, length, nat_lt}
use Rattle.std.specs.Prelude.{if◌then◌else◌}
use Rattle.coap_codec.specs.declared.kind.Kind.{Kind}
use Rattle.coap_codec.specs.declared.kind.Kind.TheVariants.{Con, Non, Ack, Rst}
use Rattle.coap_codec.specs.declared.option.Opt.{Opt}

-- a message, as contracts see it (RFC 7252 section 3)
pub record Message : Type 0 where
  pub kind : Kind
  pub code : ℕ
  pub mid : ℕ
  pub token : List ℕ
  pub options : List Opt
  pub payload : List ℕ

-- an option may stand after one of this number: numbers don't descend and have 16 bits, and a
-- length has at most two bytes after 269 (RFC 7252 section 3.1)
pub record MayFollow (number : ℕ) (o : Opt) : Type 0 where
  pub ascends : number ≤ o.number
  pub in_range : o.number < 65536
  pub fits : length o.value ≤ 65804

-- options that may stand after one of this number (RFC 7252 section 3.1)
abbrev pub IsOptionList : ℕ → List Opt → Type 0
IsOptionList number [] = Unit {0}
IsOptionList number (o ∷ os) = MayFollow number o × IsOptionList o.number os

-- code and message ID have 8 and 16 bits, a token at most 8 bytes, options ascend from 0, and a
-- message of code 0.00 has nothing else (RFC 7252 sections 3 and 4.1)
pub record IsWellFormed (m : Message) : Type 0 where
  pub code : m.code < 256
  pub mid : m.mid < 65536
  pub token : length m.token ≤ 8
  pub options : IsOptionList 0 m.options
  pub empty : m.code ≡ 0 → (length m.token ≡ 0) × (length m.options ≡ 0) × (length m.payload ≡ 0)

-- the two bits of a type (RFC 7252 section 3)
abbrev pub kind_number : Kind → ℕ
kind_number Con = 0
kind_number Non = 1
kind_number Ack = 2
kind_number Rst = 3

-- a number of 16 bits, the high byte first (RFC 7252 section 3)
abbrev pub two_bytes : ℕ → List ℕ
two_bytes n = n / 256 ∷ n % 256 ∷ []

-- the four bytes that begin a message: version 1, type, token length; code; message ID (RFC 7252 section 3)
abbrev pub header_bytes : Message → List ℕ
header_bytes m = (64 + 16 * kind_number m.kind + length m.token) ∷ m.code ∷ two_bytes m.mid

-- the header and the token of a message (RFC 7252 section 3)
abbrev pub start_bytes : Kind → ℕ → ℕ → List ℕ → List ℕ
start_bytes kind code mid token =
    (64 + 16 * kind_number kind + length token) ∷ code ∷ (two_bytes mid ++ token)

-- the nibble of a delta or a length: itself below 13, 13 for one byte more, 14 for two (RFC 7252 section 3.1)
abbrev pub nibble_of : ℕ → ℕ
nibble_of n = if nat_lt n 13 then n else (if nat_lt n 269 then 13 else 14)

-- the bytes that extend a delta or a length (RFC 7252 section 3.1)
abbrev pub extension_of : ℕ → List ℕ
extension_of n = if nat_lt n 13 then [] else (if nat_lt n 269 then (n - 13) ∷ [] else two_bytes (n - 269))

-- an option after one of this number: both nibbles, the delta's extension, the length's, the value (RFC 7252 section
-- 3.1)
abbrev pub option_bytes : ℕ → Opt → List ℕ
option_bytes number o =
    (16 * nibble_of (o.number - number) + nibble_of (length o.value)) ∷ (extension_of (o.number - number)
    ++ (extension_of (length o.value) ++ o.value))

-- options one after another, after one of this number (RFC 7252 section 3.1)
abbrev pub options_bytes : ℕ → List Opt → List ℕ
options_bytes number [] = []
options_bytes number (o ∷ os) = option_bytes number o ++ options_bytes o.number os

-- nothing, or the marker FF and a payload of at least one byte (RFC 7252 section 3)
abbrev pub payload_bytes : List ℕ → List ℕ
payload_bytes [] = []
payload_bytes (b ∷ bs) = 255 ∷ b ∷ bs

-- the bytes of a message (RFC 7252 section 3)
abbrev pub spelling : Message → List ℕ
spelling m = header_bytes m ++ (m.token ++ (options_bytes 0 m.options ++ payload_bytes m.payload))

-- the bytes are a well-formed message's (RFC 7252 section 3)
pub record Spells (bytes : List ℕ) (m : Message) : Type 0 where
  pub well_formed : IsWellFormed m
  pub parts : bytes ≡ spelling m
