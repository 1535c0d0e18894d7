-- Kinds and values: a kind's name, and the word after it.
use Rattle.std.specs.Prelude.{ℕ, ◌<◌, ◌==◌, Bool, true, List, [], ◌∷◌, ◌++◌, length, Result, Ok, Err, codes, is_ok}
use Rattle.std.specs.Prelude.{FitsSigned, if◌then◌else◌}
use Rattle.std.specs.List.{list_all}
use Rattle.std.specs.Int.{w64}
use Rattle.std.specs.Char.{is_ascii_graphic}
use Rattle.std.specs.Str.{IsUtf8, bytes_eq}
use Rattle.std.specs.Fmt.{signed_decimal}
use Rattle.std.specs.Int.Digits.{AllBelowBase}
use Rattle.lwm2m_values.specs.declared.kind.ValueKind.{ValueKind}
use Rattle.lwm2m_values.specs.declared.kind.ValueKind.TheVariants as kind
use Rattle.lwm2m_values.specs.declared.value.Value.{Value}
use Rattle.lwm2m_values.specs.declared.value.Value.TheVariants as value
use Rattle.lwm2m_values.specs.Value.{kind_of}
use Rattle.scenario_words.specs.declared.cause.Cause.{Cause}
use Rattle.scenario_words.specs.declared.cause.Cause.TheVariants.{Token, UnknownWord}
use Rattle.scenario_words.specs.Reading.{◌>>=◌, word_by}
use Rattle.scenario_words.specs.Number.{number_of, integer_of}
use Rattle.scenario_words.specs.HexWord.{bytes_of, hex_word}
use Rattle.scenario_words.specs.Quoted.{text_of, quoted_word}
use Rattle.scenario_words.specs.PathWord.{link_of, link_word}

-- a word of the right form, whatever it says: one in quotes, or bytes 21 to 7E
abbrev pub is_formed : List ℕ → Bool
is_formed [] = true
is_formed (b ∷ bs) = if b == 34 then is_ok (text_of (b ∷ bs)) else list_all is_ascii_graphic (b ∷ bs)

-- why a word is refused where one of some names may stand, and it is none of them
abbrev pub name_fault : List ℕ → Cause
name_fault w = if is_formed w then UnknownWord else Token

-- the name of a kind
abbrev pub kind_word : ValueKind → List ℕ
kind_word kind.Text = codes "text"
kind_word kind.Whole = codes "integer"
kind_word kind.Flag = codes "boolean"
kind_word kind.Opaque = codes "opaque"
kind_word kind.Moment = codes "time"
kind_word kind.Link = codes "link"

-- the kind that a word names
abbrev pub kind_named : List ℕ → Result ValueKind Cause
kind_named w =
    if bytes_eq w (codes "text") then Ok kind.Text
    else (if bytes_eq w (codes "integer") then Ok kind.Whole
    else (if bytes_eq w (codes "boolean") then Ok kind.Flag
    else (if bytes_eq w (codes "opaque") then Ok kind.Opaque
    else (if bytes_eq w (codes "time") then Ok kind.Moment
    else (if bytes_eq w (codes "link") then Ok kind.Link else Err (name_fault w))))))

-- the value of a kind that a word is
abbrev pub value_of : ValueKind → List ℕ → Result Value Cause
value_of kind.Text w = text_of w >>= (λ t. Ok (value.Text t))
value_of kind.Whole w = integer_of w >>= (λ z. Ok (value.Whole z))
value_of kind.Flag w = number_of 0 1 w >>= (λ n. Ok (value.Flag (n == 1)))
value_of kind.Opaque w = bytes_of w >>= (λ b. Ok (value.Opaque b))
value_of kind.Moment w = integer_of w >>= (λ z. Ok (value.Moment z))
value_of kind.Link w = link_of w >>= (λ p. Ok (value.Link p.0 p.1))

-- a kind and a value of it, and the words after them
abbrev pub value_at : List (List ℕ) → Result (Value × List (List ℕ)) Cause
value_at ws = word_by kind_named ws >>= (λ k. word_by (value_of k.0) k.1)

-- a text of more than 255 bytes, and more than 1,024 bytes (this profile's limits)
abbrev pub IsTooLong : Value → Type 0
IsTooLong (value.Text t) = 255 < length t
IsTooLong (value.Whole z) = ⊥
IsTooLong (value.Flag b) = ⊥
IsTooLong (value.Opaque b) = 1024 < length b
IsTooLong (value.Moment z) = ⊥
IsTooLong (value.Link o i) = ⊥

-- a value, of whatever length: its text is UTF-8, its bytes are bytes, its numbers are in their range
abbrev pub IsValue : Value → Type 0
IsValue (value.Text t) = IsUtf8 t × AllBelowBase 256 t
IsValue (value.Whole z) = FitsSigned w64 z
IsValue (value.Flag b) = Unit {0}
IsValue (value.Opaque b) = AllBelowBase 256 b
IsValue (value.Moment z) = FitsSigned w64 z
IsValue (value.Link o i) = (o < 65536) × (i < 65536)

-- the word of a value, after its kind
abbrev pub value_word : Value → List ℕ
value_word (value.Text t) = quoted_word t
value_word (value.Whole z) = signed_decimal z
value_word (value.Flag b) = (if b then 49 else 48) ∷ []
value_word (value.Opaque b) = hex_word b
value_word (value.Moment z) = signed_decimal z
value_word (value.Link o i) = link_word o i

-- a value as it is written
abbrev pub spelling_of_value : Value → List ℕ
spelling_of_value v = kind_word (kind_of v) ++ 32 ∷ value_word v
