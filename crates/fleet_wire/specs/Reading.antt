-- What a word says of which datagrams are chosen: `10%`, or `2,5-6`.
use Rattle.std.specs.Prelude.{ℕ, ◌+◌, ◌-◌, ◌^◌, ◌==◌, Bool, true, false, ◌&&◌, nat_lt, nat_le, if◌then◌else◌}
use Rattle.std.specs.Prelude.{List, [], ◌∷◌, Option, Some, None, take, drop}
use Rattle.std.specs.Prelude.{◌≡◌, ◌++◌, Result, Ok, Err, length, slice_index}
use Rattle.std.specs.Char.{is_ascii_digit}
use Rattle.std.specs.List.{list_all, position, slice_split}
use Rattle.std.specs.Str.Parse.{digits_value}
use Rattle.fleet_wire.specs.declared.choice.Choice.{Choice}
use Rattle.fleet_wire.specs.declared.choice.Choice.TheVariants.{Listed, Never, Share}
use Rattle.fleet_wire.specs.declared.reading.ChoiceFault.{ChoiceFault}
use Rattle.fleet_wire.specs.declared.reading.ChoiceFault.TheVariants.{NoNumber, OutOfOrder, OverHundred}
use Rattle.fleet_wire.specs.declared.choice.Span.{Span}

abbrev pub is_hyphen : ℕ → Bool
is_hyphen byte = byte == 45

abbrev pub is_comma : ℕ → Bool
is_comma byte = byte == 44

-- decimal digits, at least one, which write a number below 2 ^ 32
abbrev pub is_numeral : List ℕ → Bool
is_numeral text =
    list_all is_ascii_digit text && (nat_lt 0 (length text) && nat_lt (digits_value 10 text) (2 ^ 32))

-- the number that a text writes
abbrev pub number_of : List ℕ → Option ℕ
number_of text = if is_numeral text then Some (digits_value 10 text) else None

abbrev pub span_from : Option ℕ → Option ℕ → Option Span
span_from None b = None
span_from (Some from) None = None
span_from (Some from) (Some to) = Some (record { from = from; to = to })

abbrev pub span_at : List ℕ → Option ℕ → Option Span
span_at text None = span_from (number_of text) (number_of text)
span_at text (Some place) = span_from (number_of (take place text)) (number_of (drop (place + 1) text))

-- a number, or two with a hyphen
abbrev pub span_of : List ℕ → Option Span
span_of text = span_at text (position is_hyphen text)

-- ---- lists

abbrev pub in_order : ℕ → Option Span → Result Span ChoiceFault
in_order last None = Err NoNumber
in_order last (Some span) =
    if nat_lt last span.from && nat_le span.from span.to then Ok span else Err OutOfOrder

-- the span of a part that has to begin after this number
abbrev pub next_span : ℕ → List ℕ → Result Span ChoiceFault
next_span last text = in_order last (span_of text)

abbrev pub before_all : Span → Result (List Span) ChoiceFault → Result (List Span) ChoiceFault
before_all span (Ok spans) = Ok (span ∷ spans)
before_all span (Err fault) = Err fault

abbrev pub and_rest : Result Span ChoiceFault → (ℕ → Result (List Span) ChoiceFault) → Result (List Span) ChoiceFault
and_rest (Ok span) rest = before_all span (rest span.to)
and_rest (Err fault) rest = Err fault

-- the spans of parts, which ascend from this number; else the fault of the first part that has one
abbrev pub spans_from : List (List ℕ) → ℕ → Result (List Span) ChoiceFault
spans_from [] last = Ok []
spans_from (part ∷ parts) last = and_rest (next_span last part) (spans_from parts)

-- of the parts between commas
abbrev pub spans_of : List ℕ → Result (List Span) ChoiceFault
spans_of text = spans_from (slice_split is_comma text) 0

-- a list of spans with one more, if it has been read
abbrev pub IsWithLast : List Span → Result Span ChoiceFault → List Span → Type 0
IsWithLast spans (Ok span) all = all ≡ spans ++ span ∷ []
IsWithLast spans (Err fault) all = ⊥

-- ---- words

abbrev pub is_share : List ℕ → Bool
is_share word = slice_index word (length word - 1) == 37

abbrev pub share_in : Option ℕ → Result ℕ ChoiceFault
share_in None = Err NoNumber
share_in (Some percent) = if nat_lt 100 percent then Err OverHundred else Ok percent

abbrev pub share_of : List ℕ → Result ℕ ChoiceFault
share_of text = share_in (number_of text)

-- what stands before a percent sign
abbrev pub without_sign : List ℕ → List ℕ
without_sign word = take (length word - 1) word

-- a word says this choice
abbrev pub IsSaid : Choice → List ℕ → Type 0
IsSaid Never word = ⊥
IsSaid (Share percent) word = (is_share word ≡ true) × (share_of (without_sign word) ≡ Ok percent)
IsSaid (Listed spans) word = (is_share word ≡ false) × (spans_of word ≡ Ok spans.items)

-- a word says none: why
abbrev pub IsRefused : ChoiceFault → List ℕ → Type 0
IsRefused fault word =
    (is_share word ≡ true → share_of (without_sign word) ≡ Err fault)
    × (is_share word ≡ false → spans_of word ≡ Err fault)
