-- A Read in its plainest form.
use Rattle.std.specs.Prelude.{◌≡◌, ◌≤◌, ℕ, List, [], length, false, All, None, Ok}
use Rattle.coap_codec.specs.Message.{Message}
use Rattle.coap_codec.specs.OptionNumber.{uri_path_option}
use Rattle.coap_codec.specs.declared.kind.Kind.{Kind}
use Rattle.coap_codec.specs.declared.option.Opt.{Opt}
use Rattle.object_defs.specs.declared.path.Path.{Path}
use Rattle.device_requests.specs.declared.operation.Operation.TheVariants.{Read}
use Rattle.device_requests.specs.Operation.{get}
use Rattle.device_requests.specs.Options.{has_unrecognized_critical}
use Rattle.device_requests.specs.Request.{request_of}

-- the option is a Uri-Path of a length that it may have (RFC 7252 section 5.10)
abbrev pub IsSegment : Opt → Type 0
IsSegment o = (o.number ≡ uri_path_option) × (length o.value ≤ 255)

-- the message is a GET of this type, message ID and token that reads this path and says nothing else
pub record IsPlainRead (kind : Kind) (mid : ℕ) (token : List ℕ) (path : Path) (m : Message) : Type 0 where
  pub kind_is : m.kind ≡ kind
  pub mid_is : m.mid ≡ mid
  pub token_is : m.token ≡ token
  pub code_is : m.code ≡ get
  pub asks : request_of m ≡ Ok (record {
    path = path;
    operation = Read;
    accept = None;
    content_format = None;
    observe = None;
  })
  pub understood : has_unrecognized_critical m.options ≡ false
  pub segments : All IsSegment m.options
  pub no_payload : m.payload ≡ []
