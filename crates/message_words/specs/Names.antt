-- Names: of types, of codes and of Content-Formats.
use Rattle.std.specs.Prelude.{ℕ, ◌/◌, ◌%◌, ◌==◌, List, [], ◌∷◌, ◌++◌, Option, None, Some, codes, if◌then◌else◌}
use Rattle.std.specs.Fmt.{decimal}
use Rattle.coap_codec.specs.declared.kind.Kind.{Kind}
use Rattle.coap_codec.specs.declared.kind.Kind.TheVariants.{Con, Non, Ack, Rst}

-- the type of a message (RFC 7252 section 3)
abbrev pub type_name : Kind → List ℕ
type_name Con = codes "CON"
type_name Non = codes "NON"
type_name Ack = codes "ACK"
type_name Rst = codes "RST"

-- the methods, by the detail of their codes, of class 0 (RFC 7252 section 12.1.1, RFC 8132 section 4)
abbrev pub methods : List (ℕ × List ℕ)
methods =
    (1, codes "GET") ∷ (2, codes "POST") ∷ (3, codes "PUT") ∷ (4, codes "DELETE") ∷ (5, codes "FETCH")
    ∷ (6, codes "PATCH") ∷ (7, codes "iPATCH") ∷ []

-- what succeeded: class 2 (RFC 7252 section 12.1.2, RFC 7959 section 6)
abbrev pub successes : List (ℕ × List ℕ)
successes =
    (1, codes "Created") ∷ (2, codes "Deleted") ∷ (3, codes "Valid") ∷ (4, codes "Changed") ∷ (5, codes "Content")
    ∷ (31, codes "Continue") ∷ []

-- the errors of clients: class 4 (RFC 7252 section 12.1.2, RFC 7959 section 6)
abbrev pub client_errors : List (ℕ × List ℕ)
client_errors =
    (0, codes "Bad Request") ∷ (1, codes "Unauthorized") ∷ (2, codes "Bad Option") ∷ (3, codes "Forbidden")
    ∷ (4, codes "Not Found") ∷ (5, codes "Method Not Allowed") ∷ (6, codes "Not Acceptable")
    ∷ (8, codes "Request Entity Incomplete") ∷ (12, codes "Precondition Failed")
    ∷ (13, codes "Request Entity Too Large") ∷ (15, codes "Unsupported Content-Format") ∷ []

-- the errors of servers: class 5 (RFC 7252 section 12.1.2)
abbrev pub server_errors : List (ℕ × List ℕ)
server_errors =
    (0, codes "Internal Server Error") ∷ (1, codes "Not Implemented") ∷ (2, codes "Bad Gateway")
    ∷ (3, codes "Service Unavailable") ∷ (4, codes "Gateway Timeout") ∷ (5, codes "Proxying Not Supported") ∷ []

-- Content-Formats (RFC 7252 section 12.3, and its registry)
abbrev pub formats : List (ℕ × List ℕ)
formats =
    (0, codes "text/plain") ∷ (40, codes "link-format") ∷ (42, codes "octet-stream") ∷ (60, codes "cbor")
    ∷ (110, codes "senml+json") ∷ (112, codes "senml+cbor") ∷ (11542, codes "tlv") ∷ (11543, codes "lwm2m+json") ∷ []

-- the name that a table has for a number
abbrev pub name_in : List (ℕ × List ℕ) → ℕ → Option (List ℕ)
name_in [] n = None
name_in (row ∷ rows) n = if n == row.0 then Some row.1 else name_in rows n

-- the name of a code: its class in the three high bits, its detail in the five low ones (RFC 7252 section 3)
abbrev pub code_name : ℕ → Option (List ℕ)
code_name code =
    if code / 32 == 0 then name_in methods (code % 32)
    else (if code / 32 == 2 then name_in successes (code % 32)
    else (if code / 32 == 4 then name_in client_errors (code % 32)
    else (if code / 32 == 5 then name_in server_errors (code % 32)
    else None)))

-- a name after a space, where there is one
abbrev pub behind_space : Option (List ℕ) → List ℕ
behind_space None = []
behind_space (Some name) = codes " " ++ name

-- `C.DD`: class and detail, the detail in two digits
abbrev pub class_and_detail : ℕ → List ℕ
class_and_detail code =
    decimal (code / 32) ++ codes "." ++ decimal (code % 32 / 10) ++ decimal (code % 32 % 10)

-- a code: `empty` for 0.00, else `C.DD` and its name where it has one
abbrev pub code_text : ℕ → List ℕ
code_text code =
    if code == 0 then codes "empty" else class_and_detail code ++ behind_space (code_name code)

-- a name, or the number where there is none
abbrev pub name_or_number : Option (List ℕ) → ℕ → List ℕ
name_or_number None n = decimal n
name_or_number (Some name) n = name

-- a Content-Format: its name, or its number
abbrev pub format_text : ℕ → List ℕ
format_text format = name_or_number (name_in formats format) format
