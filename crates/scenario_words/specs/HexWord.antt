-- Bytes in hex: two digits a byte, in either case, or `-` for no bytes.
use Rattle.std.specs.Prelude.{◌≡◌, ℕ, ◌+◌, ◌*◌, ◌/◌, ◌%◌, ◌<◌, nat_lt, List, [], ◌∷◌, ◌⊎◌, Option, None, Some, Result}
use Rattle.std.specs.Prelude.{Ok, Err, codes, if◌then◌else◌}
use Rattle.std.specs.List.{flat_map}
use Rattle.std.specs.Str.{bytes_eq}
use Rattle.hex.specs.Hex.{hex_digit_value}
use Rattle.scenario_words.specs.declared.cause.Cause.{Cause}
use Rattle.scenario_words.specs.declared.cause.Cause.TheVariants.{Token}

-- a byte before others, where there are others
abbrev pub with_first_byte : ℕ → Option (List ℕ) → Option (List ℕ)
with_first_byte b None = None
with_first_byte b (Some bs) = Some (b ∷ bs)

-- the byte of two digits before others
abbrev pub pair_before : Option ℕ → Option ℕ → Option (List ℕ) → Option (List ℕ)
pair_before (Some high) (Some low) bs = with_first_byte (high * 16 + low) bs
pair_before (Some high) None bs = None
pair_before None low bs = None

-- the bytes of two digits each
abbrev pub pairs : List ℕ → Option (List ℕ)
pairs [] = Some []
pairs (h ∷ []) = None
pairs (h ∷ l ∷ w) = pair_before (hex_digit_value h) (hex_digit_value l) (pairs w)

-- what a word's bytes were read as, where they were
abbrev pub or_token : Option (List ℕ) → Result (List ℕ) Cause
or_token None = Err Token
or_token (Some bs) = Ok bs

-- the bytes of a hex word
abbrev pub bytes_of : List ℕ → Result (List ℕ) Cause
bytes_of w = if bytes_eq w (codes "-") then Ok [] else or_token (pairs w)

-- these two hex digits, in either case, are the byte's
abbrev pub IsByte : ℕ → ℕ → ℕ → Type 0
IsByte b high low = (b < 256) × (hex_digit_value high ≡ Some (b / 16)) × (hex_digit_value low ≡ Some (b % 16))

-- these digits are those of these bytes, two a byte
abbrev pub ArePairs : List ℕ → List ℕ → Type 0
ArePairs [] [] = Unit {0}
ArePairs [] (b ∷ bs) = ⊥
ArePairs (h ∷ []) bs = ⊥
ArePairs (h ∷ l ∷ w) [] = ⊥
ArePairs (h ∷ l ∷ w) (b ∷ bs) = IsByte b h l × ArePairs w bs

-- a word that stands for these bytes
abbrev pub IsHex : List ℕ → List ℕ → Type 0
IsHex w bs = ((w ≡ codes "-") × (bs ≡ [])) ⊎ ArePairs w bs

-- an upper-case hex digit
abbrev pub digit_of : ℕ → ℕ
digit_of value = if nat_lt value 10 then 48 + value else 55 + value

-- a byte in upper-case hex
abbrev pub hex_byte : ℕ → List ℕ
hex_byte b = digit_of (b / 16) ∷ digit_of (b % 16) ∷ []

-- bytes as they are written
abbrev pub hex_word : List ℕ → List ℕ
hex_word [] = codes "-"
hex_word (b ∷ bs) = flat_map hex_byte (b ∷ bs)
