-- Whether what arrives is what is expected.
use Rattle.std.specs.Prelude.{ℕ, ◌==◌, Bool, true, false, not, ◌&&◌, List, [], ◌∷◌, Option, None, Some, is_none}
use Rattle.std.specs.Prelude.{Result, Ok, Err}
use Rattle.std.specs.Str.{bytes_eq}
use Rattle.coap_codec.specs.declared.kind.Kind.{Kind}
use Rattle.coap_codec.specs.declared.kind.Kind.TheVariants.{Con, Non, Ack, Rst}
use Rattle.coap_codec.specs.Message.{Message}
use Rattle.object_defs.specs.declared.path.Path.{Path}
use Rattle.object_defs.specs.declared.path.Path.TheVariants.{Object, Instance, Resource, Part}
use Rattle.device_requests.specs.declared.ruling.Ruling.{Ruling}
use Rattle.device_requests.specs.declared.operation.Operation.{Operation}
use Rattle.device_requests.specs.declared.operation.Operation.TheVariants as operation
use Rattle.device_requests.specs.declared.request.Request.{Request}
use Rattle.device_requests.specs.Options.{queries_of}
use Rattle.device_requests.specs.Request.{request_of}
use Rattle.scenario_mnemonics.specs.declared.format.Format.{Format}
use Rattle.scenario_mnemonics.specs.declared.format.Format.TheVariants as format
use Rattle.scenario_mnemonics.specs.declared.verb.Verb.{Verb}
use Rattle.scenario_mnemonics.specs.declared.verb.Verb.TheVariants as verb
use Rattle.expectations.specs.declared.arrival.Arrival.{Arrival}
use Rattle.expectations.specs.declared.what.AskedRequest.{AskedRequest}
use Rattle.expectations.specs.declared.what.Details.{Details}
use Rattle.expectations.specs.declared.what.What.{What}
use Rattle.expectations.specs.declared.what.What.TheVariants as what

-- ---- parts of a request

-- the option has this number as its value
abbrev pub is_numbered : ℕ → Option ℕ → Bool
is_numbered number None = false
is_numbered number (Some n) = n == number

-- two paths are one
abbrev pub is_path : Path → Path → Bool
is_path (Object a) (Object o) = a == o
is_path (Instance a b) (Instance o i) = a == o && b == i
is_path (Resource a b c) (Resource o i r) = a == o && (b == i && c == r)
is_path (Part a b c d) (Part o i r p) = a == o && (b == i && (c == r && d == p))
is_path _ _ = false

-- the verb that an operation and an Observe make: a Read with an Observe of 0 registers, with one of 1 it deregisters
-- (RFC 7641 section 2)
abbrev pub is_verb : Verb → Operation → Option ℕ → Bool
is_verb verb.Read operation.Read observe = not (is_numbered 0 observe) && not (is_numbered 1 observe)
is_verb verb.Observe operation.Read observe = is_numbered 0 observe
is_verb verb.Cancel operation.Read observe = is_numbered 1 observe
is_verb verb.Discover operation.Discover observe = true
is_verb verb.Delete operation.Delete observe = true
is_verb verb.Write operation.WriteReplace observe = true
is_verb verb.Update operation.WritePartial observe = true
is_verb verb.Create operation.Create observe = true
is_verb verb.Attr operation.WriteAttributes observe = true
is_verb verb.Exec operation.Execute observe = true
is_verb _ _ observe = false

-- the number of the format that a request names: with these verbs the one that it accepts, else that of its payload
abbrev pub format_in : Verb → Request → Option ℕ
format_in verb.Read r = r.accept
format_in verb.Observe r = r.accept
format_in verb.Cancel r = r.accept
format_in _ r = r.content_format

-- a format is named by this number, or `any` by none; what is left out may be anything
abbrev pub has_format : Option Format → Option ℕ → Bool
has_format None number = true
has_format (Some format.Any) number = is_none number
has_format (Some format.Text) number = is_numbered 0 number
has_format (Some format.Opaque) number = is_numbered 42 number
has_format (Some format.Tlv) number = is_numbered 11542 number

abbrev pub has_payload : Option (List ℕ) → List ℕ → Bool
has_payload None payload = true
has_payload (Some bytes) payload = bytes_eq payload bytes

abbrev pub are_same : List (List ℕ) → List (List ℕ) → Bool
are_same [] [] = true
are_same (x ∷ xs) (y ∷ ys) = bytes_eq x y && are_same xs ys
are_same _ _ = false

abbrev pub has_queries : Option (List (List ℕ)) → List (List ℕ) → Bool
has_queries None queries = true
has_queries (Some expected) queries = are_same queries expected

abbrev pub has_details : Details → Verb → Message → Request → Bool
has_details d v m r =
    has_format d.format (format_in v r)
    && (has_payload d.payload m.payload && has_queries d.queries (queries_of m.options))

-- ---- messages

-- a request that a message makes is the one that is asked for
abbrev pub is_request : AskedRequest → Message → Result Request Ruling → Bool
is_request asked m (Err ruling) = false
is_request asked m (Ok r) =
    is_path r.path asked.path && (is_verb asked.verb r.operation r.observe && has_details asked.details asked.verb m r)

-- which type a message has: an acknowledgement, a reset, one of a request (RFC 7252 section 3)
abbrev pub is_ack : Kind → Bool
is_ack Ack = true
is_ack _ = false

abbrev pub is_reset : Kind → Bool
is_reset Rst = true
is_reset _ = false

abbrev pub is_of_request : Kind → Bool
is_of_request Con = true
is_of_request Non = true
is_of_request _ = false

-- a message is what is expected: an acknowledgement that is Empty (code 0.00), a reset, a request
abbrev pub is_message : What → Message → Bool
is_message what.Ack m = is_ack m.kind && m.code == 0
is_message what.Reset m = is_reset m.kind
is_message (what.Request asked) m = is_of_request m.kind && is_request asked m (request_of m)

abbrev pub is_spelled : What → Option Message → Bool
is_spelled w None = false
is_spelled w (Some m) = is_message w m

-- ---- datagrams

-- a datagram of this server says what is expected
abbrev pub is_expected : ℕ → What → Arrival → Bool
is_expected server w a = a.server == server && is_spelled w a.message
