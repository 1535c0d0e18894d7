-- The length of a value where no value of its kind has it, in words (OMA LwM2M 1.1 Core, data types; the limits of a
-- text and of an Opaque are this profile's).
use Rattle.std.specs.Prelude.{ℕ, ◌==◌, nat_lt, Bool, ◌||◌, List, [], ◌++◌, codes, if◌then◌else◌}
use Rattle.std.specs.Fmt.{decimal}
use Rattle.lwm2m_payloads.specs.declared.format.Format.{Format}
use Rattle.lwm2m_payloads.specs.declared.format.Format.TheVariants.{PlainText, OctetStream, Tlv}
use Rattle.lwm2m_values.specs.declared.kind.ValueKind.{ValueKind}
use Rattle.lwm2m_values.specs.declared.kind.ValueKind.TheVariants.{Text, Whole, Flag, Opaque, Moment, Link}

abbrev pub byte_count : ℕ → List ℕ
byte_count count = if count == 1 then codes "1 byte" else decimal count ++ codes " bytes"

-- a length above a limit
abbrev pub above : ℕ → ℕ → List ℕ
above limit length =
    if nat_lt limit length
    then codes ": it has " ++ (decimal length ++ (codes " bytes, the limit is " ++ decimal limit))
    else []

-- a length that is not among those that are possible
abbrev pub other_than : Bool → List ℕ → ℕ → List ℕ
other_than is_possible lengths length =
    if is_possible then []
    else codes ": it has " ++ (byte_count length ++ (codes ", not " ++ lengths))

-- an Integer and a Time have 1, 2, 4 or 8 bytes
abbrev pub number_words : ℕ → List ℕ
number_words length =
    other_than (length == 1 || (length == 2 || (length == 4 || length == 8))) (codes "1, 2, 4 or 8") length

-- as TLV and octet-stream have it
abbrev pub stored_words : ValueKind → ℕ → List ℕ
stored_words Text length = above 255 length
stored_words Whole length = number_words length
stored_words Flag length = other_than (length == 1) (codes "1") length
stored_words Opaque length = above 1024 length
stored_words Moment length = number_words length
stored_words Link length = other_than (length == 4) (codes "4") length

-- in plain text; the base64 of 1,024 bytes has 1,368
abbrev pub spelled_words : ValueKind → ℕ → List ℕ
spelled_words Text length = above 255 length
spelled_words Whole length = []
spelled_words Flag length = []
spelled_words Opaque length = above 1368 length
spelled_words Moment length = []
spelled_words Link length = []

abbrev pub length_words : Format → ValueKind → ℕ → List ℕ
length_words PlainText kind length = spelled_words kind length
length_words OctetStream kind length = stored_words kind length
length_words Tlv kind length = stored_words kind length
