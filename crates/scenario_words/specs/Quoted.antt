-- Text in quotes: 34 is `"`, 92 is `\`.
use Rattle.std.specs.Prelude.{◌≡◌, ℕ, nat_le, ◌==◌, not, ◌&&◌, Bool, true, List, [], ◌∷◌, ◌++◌, ◌⊎◌, Option, None, Some}
use Rattle.std.specs.Prelude.{Result, Ok, Err, if◌then◌else◌}
use Rattle.std.specs.List.{flat_map}
use Rattle.std.specs.Str.{IsUtf8, is_utf8}
use Rattle.hex.specs.Hex.{hex_digit_value}
use Rattle.scenario_words.specs.declared.cause.Cause.{Cause}
use Rattle.scenario_words.specs.declared.cause.Cause.TheVariants.{Token}
use Rattle.scenario_words.specs.HexWord.{with_first_byte, pair_before, IsByte, hex_byte}

-- a byte that stands for itself in quotes: 20 to 7E but `"` and `\`
abbrev pub is_plain : ℕ → Bool
is_plain b = (nat_le 32 b && nat_le b 126) && (not (b == 34) && not (b == 92))

-- the bytes that stand in quotes, up to the closing one, which ends the word: a plain byte is itself,
-- `\` and two hex digits are one byte
abbrev pub unquoted_bytes : List ℕ → Option (List ℕ)
unquoted_bytes [] = None
unquoted_bytes (b ∷ []) = if b == 34 then Some [] else None
unquoted_bytes (b ∷ h ∷ []) = if is_plain b then with_first_byte b (unquoted_bytes (h ∷ [])) else None
unquoted_bytes (b ∷ h ∷ l ∷ bs) =
    if is_plain b then with_first_byte b (unquoted_bytes (h ∷ l ∷ bs))
    else (if b == 92 then pair_before (hex_digit_value h) (hex_digit_value l) (unquoted_bytes bs) else None)

-- bytes that have to be UTF-8
abbrev pub utf8_or_token : Option (List ℕ) → Result (List ℕ) Cause
utf8_or_token None = Err Token
utf8_or_token (Some t) = if is_utf8 t then Ok t else Err Token

-- the text of a quoted word
abbrev pub text_of : List ℕ → Result (List ℕ) Cause
text_of [] = Err Token
text_of (b ∷ bs) = if b == 34 then utf8_or_token (unquoted_bytes bs) else Err Token

-- these bytes spell a text up to its closing quote: each byte as itself where it is plain, or by an escape
abbrev pub Spells : List ℕ → List ℕ → Type 0
Spells [] bs = bs ≡ 34 ∷ []
Spells (b ∷ t) bs =
    ((rest : List ℕ) × (bs ≡ b ∷ rest) × (is_plain b ≡ true) × Spells t rest)
    ⊎ ((high : ℕ) × (low : ℕ) × (rest : List ℕ) × (bs ≡ 92 ∷ high ∷ low ∷ rest) × IsByte b high low × Spells t rest)

-- a word that is this text in quotes
abbrev pub IsQuoted : List ℕ → List ℕ → Type 0
IsQuoted w t = (body : List ℕ) × (w ≡ 34 ∷ body) × Spells t body × IsUtf8 t

-- a byte as it is written in quotes: escaped only where it has to be
abbrev pub escaped_byte : ℕ → List ℕ
escaped_byte b = if is_plain b then b ∷ [] else 92 ∷ hex_byte b

-- a text as it is written
abbrev pub quoted_word : List ℕ → List ℕ
quoted_word t = 34 ∷ (flat_map escaped_byte t ++ 34 ∷ [])
