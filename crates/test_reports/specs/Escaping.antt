-- Text that stands within other text, and how its characters are written there. Characters by their codes: 10 is LF,
-- 34 `"`, 35 `#`, 38 `&`, 60 `<`, 62 `>`, 92 `\`.
use Rattle.std.specs.Prelude.{ℕ, ◌==◌, nat_le, nat_lt, ◌&&◌, ◌||◌, Bool, List, [], ◌∷◌, ◌++◌, Option, None, Some, codes}
use Rattle.std.specs.Prelude.{encode_utf8, if◌then◌else◌}
use Rattle.std.specs.List.{flat_map}
use Rattle.std.specs.Str.{chars}
use Rattle.scenario_words.specs.HexWord.{hex_byte}
use Rattle.message_words.specs.Names.{name_in}
use Rattle.test_reports.specs.declared.escaping.Escape.{Escape}
use Rattle.test_reports.specs.declared.escaping.Escape.TheVariants.{Title, Quoted, Attribute, Element}

-- what stands in place of a character that may not stand there: U+FFFD, the replacement character
abbrev pub replacement : List ℕ
replacement = encode_utf8 65533

-- a character as it is, but for U+FFFE and U+FFFF, which are none
abbrev pub char_text : ℕ → List ℕ
char_text c = if c == 65534 || c == 65535 then replacement else encode_utf8 c

-- in the description of a test point (TAP version 14), where `#` begins a directive
abbrev pub title_char : ℕ → List ℕ
title_char c = if c == 35 || c == 92 then 92 ∷ encode_utf8 c else encode_utf8 c

abbrev pub is_control : ℕ → Bool
is_control c = nat_lt c 32 || (nat_le 127 c && nat_le c 159)

-- in double quotes (YAML 1.2.2 section 5.7)
abbrev pub quoted_char : ℕ → List ℕ
quoted_char c =
    if c == 34 || c == 92 then 92 ∷ encode_utf8 c
    else (if is_control c then 92 ∷ 120 ∷ hex_byte c else char_text c)

-- what stands for a character in XML that would mean something, or would be read as a space (XML 1.0 sections 2.4 and
-- 3.3.3)
abbrev pub references : List (ℕ × List ℕ)
references =
    (38, codes "&amp;") ∷ (60, codes "&lt;") ∷ (62, codes "&gt;") ∷ (34, codes "&quot;") ∷ (9, codes "&#9;")
    ∷ (10, codes "&#10;") ∷ (13, codes "&#13;") ∷ []

-- by its reference, where it has one; a character that XML 1.0 has not is replaced (section 2.2)
abbrev pub xml_char : Option (List ℕ) → ℕ → List ℕ
xml_char (Some reference) c = reference
xml_char None c = if nat_lt c 32 then replacement else char_text c

-- in the value of an attribute
abbrev pub attribute_char : ℕ → List ℕ
attribute_char c = xml_char (name_in references c) c

-- in an element, whose lines stay lines
abbrev pub element_char : ℕ → List ℕ
element_char c = if c == 10 then 10 ∷ [] else attribute_char c

abbrev pub escaped_char : Escape → ℕ → List ℕ
escaped_char Title c = title_char c
escaped_char Quoted c = quoted_char c
escaped_char Attribute c = attribute_char c
escaped_char Element c = element_char c

-- each character of a text in turn
unfoldable pub escaped_text : Escape → List ℕ → List ℕ
escaped_text escape text = flat_map (escaped_char escape) (chars text)

-- a text in double quotes
unfoldable pub in_quotes : List ℕ → List ℕ
in_quotes text = 34 ∷ (escaped_text Quoted text ++ 34 ∷ [])
