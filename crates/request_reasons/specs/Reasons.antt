-- What a reason says: which rule of requests decides, and of what request that is true.
use Rattle.std.specs.Prelude.{◌≡◌, ℕ, true, false, Option, None, Some, option_map}
use Rattle.coap_codec.specs.Message.{Message}
use Rattle.object_defs.specs.Lines.{first_line}
use Rattle.object_defs.specs.Numbers.{security_object}
use Rattle.object_defs.specs.Path.{object_in}
use Rattle.object_defs.specs.declared.path.Path.{Path}
use Rattle.device_requests.specs.declared.operation.Operation.{Operation}
use Rattle.device_requests.specs.declared.ruling.Ruling.{Ruling}
use Rattle.device_requests.specs.declared.ruling.Ruling.TheVariants as ruling
use Rattle.device_requests.specs.Client.{Client}
use Rattle.device_requests.specs.Operation.{operation_of}
use Rattle.device_requests.specs.Options.{accept_of, has_query, has_unrecognized_critical, path_of, segments_of}
use Rattle.device_requests.specs.Order.{Asks}
use Rattle.device_requests.specs.Refusals.{Purpose, done_ruling, format_ruling}
use Rattle.device_requests.specs.Request.{purpose_of}
use Rattle.device_requests.specs.Targets.{definition_at}
use Rattle.request_reasons.specs.Formats.{IsUnserved}
use Rattle.request_reasons.specs.Limits.{IsLimit, firmware_state_in}
use Rattle.request_reasons.specs.Missing.{missing_lines}
use Rattle.request_reasons.specs.Options.{IsUnrecognized}
use Rattle.request_reasons.specs.Rights.{IsDenied, IsDeniedAll}
use Rattle.request_reasons.specs.Segments.{IsNoPath}
use Rattle.request_reasons.specs.Unfit.{IsUnfit}
use Rattle.request_reasons.specs.declared.reasons.Reason.{Reason}
use Rattle.request_reasons.specs.declared.reasons.Reason.TheVariants.{Unrecognized, NoPath, NoOperation, Refused, Done}
use Rattle.request_reasons.specs.declared.reasons.Rule.{Rule}
use Rattle.request_reasons.specs.declared.reasons.Rule.TheVariants as rule

-- the ruling of a request that this rule refuses
abbrev pub ruling_at : Purpose → Rule → Ruling
ruling_at purpose rule.Security = ruling.Security
ruling_at purpose (rule.Target missing) = ruling.Target
ruling_at purpose (rule.Right server letter instance grant) = ruling.Right
ruling_at purpose (rule.RightOnAll server count instance grant) = ruling.Right
ruling_at purpose (rule.Operation operations) = ruling.Operation
ruling_at purpose (rule.Format number served) = format_ruling purpose
ruling_at purpose (rule.Payload unfit) = ruling.Payload
ruling_at purpose (rule.State state) = ruling.State
ruling_at purpose (rule.Limit limit) = ruling.Limit

-- or of one that none refuses
abbrev pub ruling_with : Purpose → Option Rule → Ruling
ruling_with purpose None = done_ruling purpose
ruling_with purpose (Some rule) = ruling_at purpose rule

-- the ruling that a reason of a request names
abbrev pub ruling_of : Message → Reason → Ruling
ruling_of m (Unrecognized number fault) = ruling.Options
ruling_of m (NoPath fault) = ruling.NoPath
ruling_of m (NoOperation method path) = ruling.Method
ruling_of m (Refused path operation rule) = ruling_at (purpose_of m operation) rule
ruling_of m (Done path operation) = done_ruling (purpose_of m operation)

-- the method of a request has no operation at this path
pub record LacksOperation (m : Message) (method : ℕ) (path : Path) : Type 0 where
  pub understood : has_unrecognized_critical m.options ≡ false
  pub goes_to : path_of (segments_of m.options) ≡ Some path
  pub means : operation_of m.code (accept_of m.options) (has_query m.options) path ≡ None
  pub method_is : m.code ≡ method

-- what a rule read of a request for an operation at a path, with what it says beside that
abbrev pub IsWhy : Client → ℕ → Path → Operation → Purpose → Rule → Type 0
IsWhy client server path operation purpose rule.Security = object_in path ≡ security_object
IsWhy client server path operation purpose (rule.Target missing) =
    first_line (missing_lines client.catalog client.store path) ≡ Some missing
IsWhy client server path operation purpose (rule.Right asking letter instance grant) =
    (asking ≡ server) × IsDenied client server path operation letter instance grant
IsWhy client server path operation purpose (rule.RightOnAll asking count instance grant) =
    (asking ≡ server) × IsDeniedAll client server (object_in path) count instance grant
IsWhy client server path operation purpose (rule.Operation operations) =
    option_map (λ d. d.ops) (definition_at client.catalog path) ≡ operations
IsWhy client server path operation purpose (rule.Format number served) =
    IsUnserved client.catalog path purpose number served
IsWhy client server path operation purpose (rule.Payload unfit) = IsUnfit client server path purpose unfit
IsWhy client server path operation purpose (rule.State state) = firmware_state_in client.store ≡ state
IsWhy client server path operation purpose (rule.Limit limit) = IsLimit client server path purpose limit

-- what a reason says of a request is so
abbrev pub IsTold : Client → ℕ → Message → Reason → Type 0
IsTold client server m (Unrecognized number fault) =
    (has_unrecognized_critical m.options ≡ true) × IsUnrecognized m.options number fault
IsTold client server m (NoPath fault) =
    (has_unrecognized_critical m.options ≡ false) × (path_of (segments_of m.options) ≡ None)
    × IsNoPath (segments_of m.options) fault
IsTold client server m (NoOperation method path) = LacksOperation m method path
IsTold client server m (Refused path operation rule) =
    Asks m path operation × IsWhy client server path operation (purpose_of m operation) rule
IsTold client server m (Done path operation) = Asks m path operation
