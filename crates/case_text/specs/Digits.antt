-- Bytes as a case writes them: pieces of hex digits joined by `+`, where `.` is any digit and `HEX*N` is N times HEX,
-- or `-` for no bytes. Bytes by their codes: 42 is `*`, 43 `+`, 46 `.`.
use Rattle.std.specs.Prelude.{ℕ, ◌%◌, ◌==◌, nat_lt, ◌&&◌, Bool, List, [], ◌∷◌, ◌++◌, length, Option, Some, is_some}
use Rattle.std.specs.Prelude.{option_map, Result, Ok, Err, codes, if◌then◌else◌}
use Rattle.std.specs.List.{list_all, filter_map, repeat}
use Rattle.std.specs.Str.{bytes_eq}
use Rattle.hex.specs.Hex.{hex_digit_value}
use Rattle.scenario_words.specs.declared.cause.Cause.{Cause}
use Rattle.scenario_words.specs.declared.cause.Cause.TheVariants.{Token}
use Rattle.scenario_words.specs.Reading.{◌>>=◌}
use Rattle.scenario_words.specs.Words.{parts, words}
use Rattle.scenario_statements.specs.Grammar.{only_number}
use Rattle.case_text.specs.declared.digit.Digit.{Digit}
use Rattle.case_text.specs.declared.digit.Digit.TheVariants.{Any, Is}

-- the digit of a byte
abbrev pub digit_of : ℕ → Option Digit
digit_of b = if b == 46 then Some Any else option_map Is (hex_digit_value b)

abbrev pub is_digit : ℕ → Bool
is_digit b = is_some (digit_of b)

-- the digits of at least one byte, two a byte
abbrev pub is_hex : List ℕ → Bool
is_hex hex = nat_lt 0 (length hex) && (length hex % 2 == 0) && list_all is_digit hex

abbrev pub hex_of : List ℕ → Result (List ℕ) Cause
hex_of hex = if is_hex hex then Ok hex else Err Token

-- a number from 1 to 100,000, and no further word
abbrev pub times_of : List ℕ → Result ℕ Cause
times_of line = only_number 1 100000 (words line)

-- the hex of a piece, whose parts are cut at `*`: HEX, or HEX and how many times
abbrev pub piece_of : List (List ℕ) → Result (List ℕ) Cause
piece_of [] = Err Token
piece_of (hex ∷ []) = hex_of hex
piece_of (hex ∷ count ∷ []) = do
  h ← hex_of hex
  n ← times_of count
  Ok (repeat n h)
piece_of (hex ∷ count ∷ x ∷ more) = Err Token

-- the hex of pieces, one after another
abbrev pub pieces_of : List (List ℕ) → Result (List ℕ) Cause
pieces_of [] = Ok []
pieces_of (p ∷ ps) = do
  hex ← piece_of (parts 42 p)
  more ← pieces_of ps
  Ok (hex ++ more)

-- the digits of a word
abbrev pub digits_of : List ℕ → Result (List Digit) Cause
digits_of w =
    if bytes_eq w (codes "-") then Ok []
    else (pieces_of (parts 43 w) >>= (λ hex. Ok (filter_map digit_of hex)))
