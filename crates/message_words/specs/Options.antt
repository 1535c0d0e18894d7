-- Options in words (RFC 7252 section 5.10, RFC 7641 section 2).
use Rattle.std.specs.Prelude.{ℕ, ◌==◌, nat_le, not, ◌&&◌, ◌||◌, Bool, List, [], ◌∷◌, ◌++◌, length, Option, None, Some}
use Rattle.std.specs.Prelude.{codes, if◌then◌else◌}
use Rattle.std.specs.Fmt.{decimal}
use Rattle.std.specs.List.{flat_map, list_any}
use Rattle.coap_codec.specs.declared.option.Opt.{Opt}
use Rattle.coap_codec.specs.Number.{big_endian}
use Rattle.coap_codec.specs.OptionNumber.{observe_option, location_path_option, uri_path_option, uri_query_option}
use Rattle.coap_codec.specs.OptionNumber.{accept_option, content_format_option}
use Rattle.scenario_words.specs.HexWord.{hex_word}
use Rattle.message_words.specs.Names.{format_text}

-- a character that is itself both in a path and in a query of a URI (RFC 7252 section 6.5): a letter, a digit, another
-- one of `unreserved`, one of `sub-delims` but `&`, or `:` or `@` (RFC 3986 section 2)
abbrev pub is_unescaped : ℕ → Bool
is_unescaped b =
    (nat_le 65 b && nat_le b 90) || (nat_le 97 b && nat_le b 122) || (nat_le 48 b && nat_le b 57)
    || list_any (λ c. c == b) (codes "-._~!$'()*+,;=:@")

-- a byte of a path or a query: itself, or `%` and two hex digits (RFC 3986 section 2.1)
abbrev pub uri_byte : ℕ → List ℕ
uri_byte b = if is_unescaped b then b ∷ [] else codes "%" ++ hex_word (b ∷ [])

-- a segment of a path, or a query
abbrev pub uri_text : List ℕ → List ℕ
uri_text value = flat_map uri_byte value

-- an option of this number, after one of the number `before`, whose value is a number: the first of its number, of at
-- most n bytes; another one is treated like an unrecognized option (RFC 7252 sections 5.4.3 and 5.4.5)
abbrev pub is_recognized : ℕ → ℕ → ℕ → Opt → Bool
is_recognized number most before o = o.number == number && (not (before == number) && nat_le (length o.value) most)

-- a segment of a path, after the option of the number `before`; the first one has words before it
abbrev pub segment_text : List ℕ → ℕ → Opt → List ℕ
segment_text lead before o = (if before == o.number then [] else lead) ++ codes "/" ++ uri_text o.value

-- any other option: its number, and its value in hex
abbrev pub plain_option : Opt → List ℕ
plain_option o = codes ", option " ++ decimal o.number ++ codes " " ++ hex_word o.value

-- an option after one of the number `before`; the Content-Format stands before the payload
abbrev pub option_text : ℕ → Opt → List ℕ
option_text before o =
    if o.number == uri_path_option then segment_text (codes ", ") before o
    else (if o.number == location_path_option then segment_text (codes ", location ") before o
    else (if o.number == uri_query_option then codes ", ?" ++ uri_text o.value
    else (if is_recognized observe_option 3 before o then codes ", observe " ++ decimal (big_endian o.value)
    else (if is_recognized accept_option 2 before o then codes ", accept " ++ format_text (big_endian o.value)
    else (if is_recognized content_format_option 2 before o then []
    else plain_option o)))))

-- options in their order, the first of them after one of the number `before`
abbrev pub options_text : ℕ → List Opt → List ℕ
options_text before [] = []
options_text before (o ∷ os) = option_text before o ++ options_text o.number os

-- the Content-Format among options, the first of them after one of the number `before`
abbrev pub format_in : ℕ → List Opt → Option ℕ
format_in before [] = None
format_in before (o ∷ os) =
    if is_recognized content_format_option 2 before o then Some (big_endian o.value) else format_in o.number os
