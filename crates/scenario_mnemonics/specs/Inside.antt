-- How the mnemonic of a datagram is found, as clauses of private functions name it. No promise rests on it: that it is
-- the one of `Denoting` is proved.
use Rattle.std.specs.Prelude.{ℕ, nat_le, ◌==◌, Bool, false, List, [], ◌∷◌, length, Option, None, Some, option_map}
use Rattle.std.specs.Prelude.{option_and_then, Result, Ok, Err, if◌then◌else◌}
use Rattle.std.specs.Str.{bytes_eq}
use Rattle.coap_codec.specs.declared.kind.Kind.{Kind}
use Rattle.coap_codec.specs.declared.kind.Kind.TheVariants as kind
use Rattle.coap_codec.specs.declared.option.Opt.{Opt}
use Rattle.coap_codec.specs.declared.fault.CoapFault.{CoapFault}
use Rattle.coap_codec.specs.Message.{Message}
use Rattle.coap_codec.specs.OptionNumber.{observe_option, uri_path_option, content_format_option, uri_query_option}
use Rattle.coap_codec.specs.OptionNumber.{accept_option}
use Rattle.coap_codec.specs.Reading.{reading_of}
use Rattle.object_defs.specs.declared.path.Path.{Path}
use Rattle.object_defs.specs.declared.path.Path.TheVariants.{Object, Instance, Resource, Part}
use Rattle.object_defs.specs.Decimal.{decimal_number}
use Rattle.scenario_mnemonics.specs.declared.request_type.RequestType.{RequestType}
use Rattle.scenario_mnemonics.specs.declared.request_type.RequestType.TheVariants.{Con, Non}
use Rattle.scenario_mnemonics.specs.declared.format.Format.{Format}
use Rattle.scenario_mnemonics.specs.declared.format.Format.TheVariants as format
use Rattle.scenario_mnemonics.specs.declared.action.Action.{Action}
use Rattle.scenario_mnemonics.specs.declared.action.Action.TheVariants as act
use Rattle.scenario_mnemonics.specs.declared.mnemonic.Mnemonic.{Mnemonic}
use Rattle.scenario_mnemonics.specs.declared.mnemonic.Mnemonic.TheVariants as mnemonic
use Rattle.scenario_mnemonics.specs.Queries.{are_queries}
use Rattle.scenario_mnemonics.specs.Messages.{datagram_of}
use Rattle.scenario_mnemonics.specs.Denoting.{values}

-- the value of an option, if it has this number
abbrev pub value_with : ℕ → Opt → List (List ℕ)
value_with number o = if o.number == number then o.value ∷ [] else []

abbrev pub type_from : Kind → RequestType
type_from kind.Con = Con
type_from _ = Non

abbrev pub format_named : List ℕ → Option Format
format_named v =
    if bytes_eq v [] then Some format.Text
    else (if bytes_eq v (42 ∷ []) then Some format.Opaque
    else (if bytes_eq v (45 ∷ 22 ∷ []) then Some format.Tlv else None))

-- the format of at most one option
abbrev pub format_from : List (List ℕ) → Option Format
format_from [] = Some format.Any
format_from (v ∷ []) = format_named v
format_from _ = None

-- the path of one to four segments
abbrev pub path_from : List (List ℕ) → Option Path
path_from (a ∷ []) = option_map (λ o. Object o) (decimal_number a)
path_from (a ∷ b ∷ []) = option_and_then (λ o. option_map (λ i. Instance o i) (decimal_number b)) (decimal_number a)
path_from (a ∷ b ∷ c ∷ []) =
    option_and_then (λ o. option_and_then (λ i. option_map (λ r. Resource o i r) (decimal_number c)) (decimal_number b))
    (decimal_number a)
path_from (a ∷ b ∷ c ∷ d ∷ []) =
    option_and_then (λ o. option_and_then (λ i. option_and_then (λ r. option_map (λ n. Part o i r n) (decimal_number d))
    (decimal_number c)) (decimal_number b)) (decimal_number a)
path_from _ = None

-- an Accept of 40
abbrev pub is_discover : List (List ℕ) → Bool
is_discover [] = false
is_discover (v ∷ vs) = bytes_eq v (40 ∷ [])

-- of a GET, by its Observe and Accept
abbrev pub get_from : List (List ℕ) → List (List ℕ) → Option Action
get_from [] accepts =
    if is_discover accepts then Some act.Discover else option_map (λ f. act.Read f) (format_from accepts)
get_from (v ∷ vs) accepts =
    if bytes_eq v [] then option_map (λ f. act.Observe f) (format_from accepts)
    else option_map (λ f. act.Cancel f) (format_from accepts)

-- of a POST, by its path
abbrev pub post_from : Path → List (List ℕ) → List ℕ → Option Action
post_from (Object o) contents payload = option_map (λ f. act.Create f payload) (format_from contents)
post_from (Instance o i) contents payload = option_map (λ f. act.Update f payload) (format_from contents)
post_from (Resource o i r) contents payload = Some (act.Exec payload)
post_from (Part o i r n) contents payload = None

-- of a PUT, by its queries
abbrev pub put_from : List (List ℕ) → List (List ℕ) → List ℕ → Option Action
put_from [] contents payload = option_map (λ f. act.Write f payload) (format_from contents)
put_from (q ∷ qs) contents payload = if are_queries (q ∷ qs) then Some (act.Attr (q ∷ qs)) else None

-- by its method
abbrev pub action_from : Message → Path → Option Action
action_from m p =
    if m.code == 1 then get_from (values observe_option m.options) (values accept_option m.options)
    else (if m.code == 2 then post_from p (values content_format_option m.options) m.payload
    else (if m.code == 3 then put_from (values uri_query_option m.options)
    (values content_format_option m.options) m.payload
    else (if m.code == 4 then Some act.Delete else None)))

abbrev pub token_from : List ℕ → Option (List ℕ)
token_from t = if nat_le (length t) 8 then Some t else None

abbrev pub request_from : Message → Option Mnemonic
request_from m =
    option_and_then (λ p.
    option_and_then (λ a.
    option_map (λ t. mnemonic.Request (record
    { kind = type_from m.kind; mid = m.mid; token = t; path = p; action = a })) (token_from m.token))
    (action_from m p))
    (path_from (values uri_path_option m.options))

-- the mnemonic that this message would have, if it has one
abbrev pub mnemonic_from : Message → Option Mnemonic
mnemonic_from m = if m.code == 0 then Some (mnemonic.Reset m.mid) else request_from m

abbrev pub mnemonic_read : Result Message CoapFault → Option Mnemonic
mnemonic_read (Ok m) = mnemonic_from m
mnemonic_read (Err fault) = None

-- this mnemonic, where the datagram is its own
abbrev pub own : List ℕ → Mnemonic → Option Mnemonic
own bytes m = if bytes_eq (datagram_of m) bytes then Some m else None

-- the mnemonic of a datagram
abbrev pub mnemonic_found : List ℕ → Option Mnemonic
mnemonic_found bytes = option_and_then (own bytes) (mnemonic_read (reading_of bytes))
