-- BYTES, by the words of a line: one or more, each hex in pieces, or a text in quotes, which `*N` may follow. What they
-- say is hex, in which `.` is any digit. Bytes by their codes: 34 is `"`, 42 `*`, 43 `+`.
use Rattle.std.specs.Prelude.{ℕ, ◌==◌, List, [], ◌∷◌, ◌++◌, Result, Ok, Err, codes, if◌then◌else◌}
use Rattle.std.specs.List.{filter_map, repeat}
use Rattle.std.specs.Str.{bytes_eq}
use Rattle.hex.specs.Hex.{decode_of, encode_lower}
use Rattle.hex.specs.declared.error.FromHexError.{FromHexError}
use Rattle.scenario_words.specs.declared.cause.Cause.{Cause}
use Rattle.scenario_words.specs.declared.cause.Cause.TheVariants.{Token}
use Rattle.scenario_words.specs.Reading.{◌>>=◌, first_of, check_of_end}
use Rattle.scenario_words.specs.Words.{parts, words}
use Rattle.case_text.specs.declared.digit.Digit.{Digit}
use Rattle.case_text.specs.Digits.{digit_of, pieces_of, times_of}
use Rattle.case_text.specs.Stating.{only_text}

-- how many times a text stands there, by what follows its quotes: nothing, or `*N`
abbrev pub times_after : List ℕ → Result ℕ Cause
times_after [] = Ok 1
times_after (b ∷ bs) = if b == 42 then times_of bs else Err Token

-- the hex of a word, whose rest after the first `"` is cut at each further one: a text in quotes, once or N times
abbrev pub text_hex : List (List ℕ) → Result (List ℕ) Cause
text_hex (inside ∷ behind ∷ []) = do
  t ← only_text (words (34 ∷ inside ++ 34 ∷ []))
  n ← times_after behind
  Ok (repeat n (encode_lower t))
text_hex _ = Err Token

-- the hex of a word in pieces; `-` is for no bytes
abbrev pub plain_hex : List ℕ → Result (List ℕ) Cause
plain_hex w = if bytes_eq w (codes "-") then Ok [] else pieces_of (parts 43 w)

-- the hex of a word
abbrev pub word_hex : List ℕ → Result (List ℕ) Cause
word_hex [] = plain_hex []
word_hex (b ∷ bs) = if b == 34 then text_hex (parts 34 bs) else plain_hex (b ∷ bs)

-- the hex of the words up to `at`, and the words from there on
abbrev pub hex_up_to_at : List (List ℕ) → Result (List ℕ × List (List ℕ)) Cause
hex_up_to_at [] = Ok ([], [])
hex_up_to_at (w ∷ ws) =
    if bytes_eq w (codes "at") then Ok ([], w ∷ ws)
    else (word_hex w >>= (λ h. hex_up_to_at ws >>= (λ x. Ok (h ++ x.0, x.1))))

-- the same, of at least one word
abbrev pub hex_at : List (List ℕ) → Result (List ℕ × List (List ℕ)) Cause
hex_at ws = do
  w ← first_of ws
  h ← word_hex w.0
  x ← hex_up_to_at w.1
  Ok (h ++ x.0, x.1)

-- the hex of all words
abbrev pub hex_of : List (List ℕ) → Result (List ℕ) Cause
hex_of ws = do
  h ← hex_at ws
  e ← check_of_end h.1
  Ok h.0

-- the bytes of hex
abbrev pub or_token : Result (List ℕ) FromHexError → Result (List ℕ) Cause
or_token (Ok bytes) = Ok bytes
or_token (Err e) = Err Token

abbrev pub bytes_of : List (List ℕ) → Result (List ℕ) Cause
bytes_of ws = hex_of ws >>= (λ h. or_token (decode_of h))

-- the bytes of the words up to `at`, and the words from there on
abbrev pub bytes_at : List (List ℕ) → Result (List ℕ × List (List ℕ)) Cause
bytes_at ws = do
  h ← hex_at ws
  b ← or_token (decode_of h.0)
  Ok (b, h.1)

-- the digits of hex
abbrev pub all_digits : List (List ℕ) → Result (List Digit) Cause
all_digits ws = hex_of ws >>= (λ h. Ok (filter_map digit_of h))
