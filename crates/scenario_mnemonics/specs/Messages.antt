-- The message that a mnemonic is: each has the options that it needs, in the order of their numbers, and no other.
use Rattle.std.specs.Prelude.{◌≡◌, ℕ, ◌<◌, ◌≤◌, ◌==◌, Bool, true, List, [], ◌∷◌, ◌++◌, length, map}
use Rattle.std.specs.Fmt.{decimal}
use Rattle.std.specs.Int.Digits.{AllBelowBase}
use Rattle.coap_codec.specs.declared.kind.Kind.{Kind}
use Rattle.coap_codec.specs.declared.kind.Kind.TheVariants as kind
use Rattle.coap_codec.specs.declared.option.Opt.{Opt}
use Rattle.coap_codec.specs.OptionNumber.{observe_option, uri_path_option, content_format_option, uri_query_option}
use Rattle.coap_codec.specs.OptionNumber.{accept_option}
use Rattle.coap_codec.specs.Message.{Message, spelling}
use Rattle.coap_codec.specs.Number.{shortest_big_endian}
use Rattle.object_defs.specs.declared.path.Path.{Path}
use Rattle.object_defs.specs.declared.path.Path.TheVariants.{Object, Instance, Resource, Part}
use Rattle.scenario_words.specs.PathWord.{IsPath}
use Rattle.scenario_mnemonics.specs.declared.request_type.RequestType.{RequestType}
use Rattle.scenario_mnemonics.specs.declared.request_type.RequestType.TheVariants.{Con, Non}
use Rattle.scenario_mnemonics.specs.declared.format.Format.{Format}
use Rattle.scenario_mnemonics.specs.declared.format.Format.TheVariants as format
use Rattle.scenario_mnemonics.specs.declared.verb.Verb.{Verb}
use Rattle.scenario_mnemonics.specs.declared.verb.Verb.TheVariants as verb
use Rattle.scenario_mnemonics.specs.declared.action.Action.{Action}
use Rattle.scenario_mnemonics.specs.declared.action.Action.TheVariants as act
use Rattle.scenario_mnemonics.specs.declared.mnemonic.Request.{Request}
use Rattle.scenario_mnemonics.specs.declared.mnemonic.Mnemonic.{Mnemonic}
use Rattle.scenario_mnemonics.specs.declared.mnemonic.Mnemonic.TheVariants as mnemonic
use Rattle.scenario_mnemonics.specs.Queries.{are_queries}

-- options of one number
abbrev pub options_with : ℕ → List (List ℕ) → List Opt
options_with number values = map (λ v. record { number = number; value = v }) values

-- the option that a format is, in the fewest bytes
abbrev pub format_values : Format → List (List ℕ)
format_values format.Any = []
format_values format.Text = shortest_big_endian 0 ∷ []
format_values format.Opaque = shortest_big_endian 42 ∷ []
format_values format.Tlv = shortest_big_endian 11542 ∷ []

-- Uri-Path: each number in decimal
abbrev pub segments : Path → List (List ℕ)
segments (Object o) = decimal o ∷ []
segments (Instance o i) = decimal o ∷ decimal i ∷ []
segments (Resource o i r) = decimal o ∷ decimal i ∷ decimal r ∷ []
segments (Part o i r n) = decimal o ∷ decimal i ∷ decimal r ∷ decimal n ∷ []

-- what an action is called, and has in its message beside the path: the values of its options, by their names
pub record RequestFields : Type 0 where
  pub verb : Verb
  pub code : ℕ
  pub observe : List (List ℕ)
  pub content : List (List ℕ)
  pub queries : List (List ℕ)
  pub accept : List (List ℕ)
  pub payload : List ℕ

abbrev pub method : ℕ → Verb → RequestFields
method code verb =
    record { verb = verb; code = code; observe = []; content = []; queries = []; accept = []; payload = [] }

-- each action's: GET is 1, POST 2, PUT 3, DELETE 4 (RFC 7252 section 12.1.1); an Observe of 0 registers, one of 1
-- deregisters (RFC 7641 section 2); an Accept of 40 is the link format
abbrev pub fields_of : Action → RequestFields
fields_of (act.Read f) = record (method 1 verb.Read) { accept = format_values f }
fields_of (act.Observe f) =
    record (method 1 verb.Observe) { observe = shortest_big_endian 0 ∷ []; accept = format_values f }
fields_of (act.Cancel f) =
    record (method 1 verb.Cancel) { observe = shortest_big_endian 1 ∷ []; accept = format_values f }
fields_of act.Discover = record (method 1 verb.Discover) { accept = shortest_big_endian 40 ∷ [] }
fields_of act.Delete = method 4 verb.Delete
fields_of (act.Write f b) = record (method 3 verb.Write) { content = format_values f; payload = b }
fields_of (act.Update f b) = record (method 2 verb.Update) { content = format_values f; payload = b }
fields_of (act.Create f b) = record (method 2 verb.Create) { content = format_values f; payload = b }
fields_of (act.Attr qs) = record (method 3 verb.Attr) { queries = qs }
fields_of (act.Exec b) = record (method 2 verb.Exec) { payload = b }

-- the path has as many numbers as the action needs
abbrev pub fits : Action → Path → Bool
fits (act.Create f b) p = length (segments p) == 1
fits (act.Update f b) p = length (segments p) == 2
fits (act.Exec b) p = length (segments p) == 3
fits a p = true

abbrev pub fits_mnemonic : Mnemonic → Bool
fits_mnemonic (mnemonic.Request r) = fits r.action r.path
fits_mnemonic (mnemonic.Reset mid) = true

-- Observe 6, Uri-Path 11, Content-Format 12, Uri-Query 15, Accept 17 (RFC 7252 section 12.2, RFC 7641 section 2)
abbrev pub options_of : Path → Action → List Opt
options_of p a =
    options_with observe_option (fields_of a).observe
    ++ (options_with uri_path_option (segments p)
    ++ (options_with content_format_option (fields_of a).content
    ++ (options_with uri_query_option (fields_of a).queries ++ options_with accept_option (fields_of a).accept)))

-- the type (RFC 7252 section 3)
abbrev pub kind_of : RequestType → Kind
kind_of Con = kind.Con
kind_of Non = kind.Non

-- the message of a mnemonic
abbrev pub message_of : Mnemonic → Message
message_of (mnemonic.Reset mid) =
    record { kind = kind.Rst; code = 0; mid = mid; token = []; options = []; payload = [] }
message_of (mnemonic.Request r) = record {
  kind = kind_of r.kind;
  code = (fields_of r.action).code;
  mid = r.mid;
  token = r.token;
  options = options_of r.path r.action;
  payload = (fields_of r.action).payload;
}

-- the datagram of a mnemonic
abbrev pub datagram_of : Mnemonic → List ℕ
datagram_of m = spelling (message_of m)

-- queries, where there are some, that words can say
abbrev pub has_words : Action → Bool
has_words (act.Attr qs) = are_queries qs
has_words a = true

-- a request that text can say, and that fits: a token of at most 8 bytes, numbers of 16 bits, bytes below 256
pub record IsGoodRequest (r : Request) : Type 0 where
  pub mid : r.mid < 65536
  pub token : length r.token ≤ 8
  pub token_bytes : AllBelowBase 256 r.token
  pub path : IsPath r.path
  pub fits : fits r.action r.path ≡ true
  pub payload : AllBelowBase 256 (fields_of r.action).payload
  pub queries : has_words r.action ≡ true

-- a mnemonic that text can say, and that fits
abbrev pub IsGood : Mnemonic → Type 0
IsGood (mnemonic.Request r) = IsGoodRequest r
IsGood (mnemonic.Reset mid) = mid < 65536
