-- Values: their kinds, which are good, their plain text, their bytes, and their code, by which a finite map can hold
-- them.
use Rattle.std.specs.Prelude.{◌≡◌, ℕ, ◌<◌, ◌≤◌, ℤ, pos, negsuc, nat_le, nat_lt, List, [], ◌∷◌, ◌++◌, length, Bool, true}
use Rattle.std.specs.Prelude.{false, ◌==◌, Option, None, Some}
use Rattle.std.specs.Prelude.{if◌then◌else◌, ◌⊎◌, refl}
use Rattle.std.specs.Prelude.{neg_ℤ, FitsSigned}
use Rattle.std.specs.Int.{Width, w8, w16, w32, w64, to_be_bytes, cast_unsigned}
use Rattle.std.specs.Str.{IsUtf8}
use Rattle.std.specs.Str.Parse.{IsNumeral, digits_value}
use Rattle.std.specs.Fmt.{decimal, signed_decimal}
use Rattle.base64.specs.GeneralPurpose.{encode_of, IsBytes}
use Rattle.base64.specs.Engines.{standard}
use Rattle.std.proofs.Common.{inl, inr}
use Rattle.std.specs.Coded.{Coded, code_by, coded×, coded⊎, coded_ℕ, coded_ℤ, coded_bool, coded_list}
use Rattle.lwm2m_values.specs.declared.value.Value.{Value}
use Rattle.lwm2m_values.specs.declared.value.Value.TheVariants as value
use Rattle.lwm2m_values.specs.declared.value.Value.TheVariants.{Text, Whole, Flag, Opaque, Moment, Link}
use Rattle.lwm2m_values.specs.declared.kind.ValueKind.{ValueKind}
use Rattle.lwm2m_values.specs.declared.kind.ValueKind.TheVariants as kind

-- the kind of a value
abbrev pub kind_of : Value → ValueKind
kind_of (Text _) = kind.Text
kind_of (Whole _) = kind.Whole
kind_of (Flag _) = kind.Flag
kind_of (Opaque _) = kind.Opaque
kind_of (Moment _) = kind.Moment
kind_of (Link _ _) = kind.Link

-- Text has at most 255 bytes, Opaque at most 1,024
abbrev pub has_good_length : Value → Bool
has_good_length (Text t) = nat_le (length t) 255
has_good_length (Whole _) = true
has_good_length (Flag _) = true
has_good_length (Opaque b) = nat_le (length b) 1024
has_good_length (Moment _) = true
has_good_length (Link _ _) = true

-- whether a value of this kind holds a list of bytes, for which memory is taken
abbrev pub holds_bytes : ValueKind → Bool
holds_bytes kind.Text = true
holds_bytes kind.Whole = false
holds_bytes kind.Flag = false
holds_bytes kind.Opaque = true
holds_bytes kind.Moment = false
holds_bytes kind.Link = false

-- a valid value: one within the limits of its kind (OMA LwM2M 1.1 Core, data types; the two lengths are this profile's)
abbrev pub IsGood : Value → Type 0
IsGood (Text t) = IsUtf8 t × (length t ≤ 255)
IsGood (Whole z) = FitsSigned w64 z
IsGood (Flag _) = Unit {0}
IsGood (Opaque b) = IsBytes b × (length b ≤ 1024)
IsGood (Moment z) = FitsSigned w64 z
IsGood (Link o i) = (o < 65536) × (i < 65536)

-- whether there is an Integer, and it is this number; a negative one is none
abbrev pub is_integer : ℕ → Option ℤ → Bool
is_integer n None = false
is_integer n (Some (pos m)) = m == n
is_integer n (Some (negsuc _)) = false

-- one decimal digit or more, which write this number; the first may be 0
abbrev pub IsDecimal : ℕ → List ℕ → Type 0
IsDecimal n t = IsNumeral 10 t × (digits_value 10 t ≡ n)

-- such digits, alone or after a minus sign
abbrev pub IsSigned : ℤ → List ℕ → Type 0
IsSigned z t = ((n : ℕ) × IsDecimal n t × (z ≡ pos n))
    ⊎ ((n : ℕ) × (digits : List ℕ) × (t ≡ 45 ∷ digits) × IsDecimal n digits × (z ≡ neg_ℤ (pos n)))

-- two numbers with a colon between them
abbrev pub IsPair : ℕ → ℕ → List ℕ → Type 0
IsPair o i t = (a : List ℕ) × (b : List ℕ) × (t ≡ a ++ 58 ∷ b) × IsDecimal o a × IsDecimal i b

-- `1` or `0`
abbrev pub flag_text : Bool → List ℕ
flag_text b = (if b then 49 else 48) ∷ []

-- this is a plain text of the value (OMA LwM2M 1.1 Core, plain text; base64 by RFC 4648 section 4)
abbrev pub IsText : Value → List ℕ → Type 0
IsText (Text bytes) t = t ≡ bytes
IsText (Whole z) t = IsSigned z t
IsText (Flag b) t = t ≡ flag_text b
IsText (Opaque bytes) t = t ≡ encode_of standard bytes
IsText (Moment z) t = IsSigned z t
IsText (Link o i) t = IsPair o i t

-- the shortest plain text of the value: no needless sign, no needless zero
abbrev pub text_of : Value → List ℕ
text_of (Text bytes) = bytes
text_of (Whole z) = signed_decimal z
text_of (Flag b) = flag_text b
text_of (Opaque bytes) = encode_of standard bytes
text_of (Moment z) = signed_decimal z
text_of (Link o i) = decimal o ++ 58 ∷ decimal i

-- these are the bytes of the number in two's complement of this width, the highest byte first
abbrev pub IsIntegerOf : Width → ℤ → List ℕ → Type 0
IsIntegerOf w z bytes = FitsSigned w z × (bytes ≡ to_be_bytes w (cast_unsigned w z))

-- an Integer has 8, 16, 32 or 64 bits
abbrev pub IsInteger : ℤ → List ℕ → Type 0
IsInteger z bytes =
    IsIntegerOf w8 z bytes ⊎ (IsIntegerOf w16 z bytes ⊎ (IsIntegerOf w32 z bytes ⊎ IsIntegerOf w64 z bytes))

-- these are bytes of the value, as TLV has them (OMA LwM2M 1.1 Core, data types)
abbrev pub IsBytesOf : Value → List ℕ → Type 0
IsBytesOf (Text text) bytes = bytes ≡ text
IsBytesOf (Whole z) bytes = IsInteger z bytes
IsBytesOf (Flag b) bytes = bytes ≡ (if b then 1 else 0) ∷ []
IsBytesOf (Opaque content) bytes = bytes ≡ content
IsBytesOf (Moment z) bytes = IsInteger z bytes
IsBytesOf (Link o i) bytes = bytes ≡ to_be_bytes w16 o ++ to_be_bytes w16 i

-- the number is from -half up to below half
abbrev pub is_within : ℕ → ℤ → Bool
is_within half (pos n) = nat_lt n half
is_within half (negsuc n) = nat_lt n half

-- the bytes of a number in the fewest of 8, 16, 32 and 64 bits
abbrev pub shortest_integer : ℤ → List ℕ
shortest_integer z =
    if is_within 128 z then to_be_bytes w8 (cast_unsigned w8 z)
    else (if is_within 32768 z then to_be_bytes w16 (cast_unsigned w16 z)
    else (if is_within 2147483648 z then to_be_bytes w32 (cast_unsigned w32 z)
    else to_be_bytes w64 (cast_unsigned w64 z)))

-- the shortest bytes of the value
abbrev pub bytes_of : Value → List ℕ
bytes_of (Text text) = text
bytes_of (Whole z) = shortest_integer z
bytes_of (Flag b) = (if b then 1 else 0) ∷ []
bytes_of (Opaque content) = content
bytes_of (Moment z) = shortest_integer z
bytes_of (Link o i) = to_be_bytes w16 o ++ to_be_bytes w16 i

abbrev pub Split : Type 0
Split = List ℕ ⊎ (ℤ ⊎ (Bool ⊎ (List ℕ ⊎ (ℤ ⊎ (ℕ × ℕ)))))

abbrev pub split : Value → Split
split (Text t) = inl t
split (Whole z) = inr (inl z)
split (Flag b) = inr (inr (inl b))
split (Opaque b) = inr (inr (inr (inl b)))
split (Moment z) = inr (inr (inr (inr (inl z))))
split (Link o i) = inr (inr (inr (inr (inr (o, i)))))

abbrev pub join : Split → Value
join (inl t) = value.Text t
join (inr (inl z)) = value.Whole z
join (inr (inr (inl b))) = value.Flag b
join (inr (inr (inr (inl b)))) = value.Opaque b
join (inr (inr (inr (inr (inl z))))) = value.Moment z
join (inr (inr (inr (inr (inr p))))) = value.Link p.0 p.1

pub join-split : (v : Value) → join (split v) ≡ v
join-split (Text t) = refl
join-split (Whole z) = refl
join-split (Flag b) = refl
join-split (Opaque b) = refl
join-split (Moment z) = refl
join-split (Link o i) = refl

-- a value is stored as what its variant holds
abbrev pub value_code : Coded Value
value_code =
    code_by Split (coded⊎ (coded_list coded_ℕ)
    (coded⊎ coded_ℤ (coded⊎ coded_bool (coded⊎ (coded_list coded_ℕ) (coded⊎ coded_ℤ (coded× coded_ℕ coded_ℕ))))))
    split join join-split
