-- What a request asks for, as its options say it, and what it answers and changes.
use Rattle.std.specs.Prelude.{◌≡◌, ◌↔◌, ℕ, false, Option, None, Some, Result, Ok, Err, if◌then◌else◌}
use Rattle.coap_codec.specs.Message.{Message}
use Rattle.object_defs.specs.declared.path.Path.{Path}
use Rattle.lwm2m_payloads.specs.declared.given.Mode.TheVariants.{Replace, Update}
use Rattle.device_requests.specs.declared.operation.Operation.{Operation}
use Rattle.device_requests.specs.declared.operation.Operation.TheVariants.{Read, Discover, WriteAttributes}
use Rattle.device_requests.specs.declared.operation.Operation.TheVariants.{WriteReplace, WritePartial, Create, Execute}
use Rattle.device_requests.specs.declared.operation.Operation.TheVariants.{Delete}
use Rattle.device_requests.specs.declared.request.Request.{Request}
use Rattle.device_requests.specs.declared.ruling.Ruling.{Ruling}
use Rattle.device_requests.specs.declared.ruling.Ruling.TheVariants.{Options, NoPath, Method}
use Rattle.device_requests.specs.Answer.{Outcome, answer_alone, bare}
use Rattle.device_requests.specs.Operation.{operation_of}
use Rattle.device_requests.specs.Options.{accept_of, content_format_of, has_query, has_unrecognized_critical}
use Rattle.device_requests.specs.Options.{observe_of, queries_of, segments_of, path_of}
use Rattle.device_requests.specs.Outcomes.{attributes_outcome, create_outcome, delete_outcome, discover_answer}
use Rattle.device_requests.specs.Outcomes.{execute_outcome, read_answer, write_outcome}
use Rattle.device_requests.specs.Refusals.{Purpose, to_create, to_delete, to_discover, to_execute, to_read, to_write}
use Rattle.device_requests.specs.Refusals.{to_write_attributes}
use Rattle.device_requests.specs.Client.{Client}

-- an operation at a path, with the formats and the Observe that the options name (RFC 7252 section 5.10; RFC 7641
-- section 2)
abbrev pub request_with : Message → Path → Operation → Request
request_with m path operation =
    record {
      path = path;
      operation = operation;
      accept = accept_of m.options;
      content_format = content_format_of m.options;
      observe = observe_of m.options;
    }

-- a method that is not an operation at the path is Method Not Allowed
abbrev pub request_by : Message → Path → Option Operation → Result Request Ruling
request_by m path None = Err Method
request_by m path (Some operation) = Ok (request_with m path operation)

-- a Uri-Path that is not a path is Not Found
abbrev pub request_on : Message → Option Path → Result Request Ruling
request_on m None = Err NoPath
request_on m (Some path) =
    request_by m path (operation_of m.code (accept_of m.options) (has_query m.options) path)

-- what a request asks for, or the rule that refuses it; an option that must be understood and isn't is refused first
-- (RFC 7252 section 5.4.1)
abbrev pub request_of : Message → Result Request Ruling
request_of m =
    if has_unrecognized_critical m.options then Err Options else request_on m (path_of (segments_of m.options))

-- the options of a message are understood, and this request is what they say, with the method
pub record AsksFor (m : Message) (r : Request) : Type 0 where
  pub understood : has_unrecognized_critical m.options ≡ false
  pub path : path_of (segments_of m.options) ≡ Some r.path
  pub operation : operation_of m.code (accept_of m.options) (has_query m.options) r.path ≡ Some r.operation
  pub accept : accept_of m.options ≡ r.accept
  pub content_format : content_format_of m.options ≡ r.content_format
  pub observe : observe_of m.options ≡ r.observe

-- a request is what the options say
abbrev pub RequestsAreSaid : Type 0
RequestsAreSaid = (m : Message) (r : Request) → (request_of m ≡ Ok r) ↔ AsksFor m r

-- what an operation is for, with what the message says
abbrev pub purpose_of : Message → Operation → Purpose
purpose_of m Read = to_read (accept_of m.options)
purpose_of m Discover = to_discover
purpose_of m WriteReplace = to_write Replace (content_format_of m.options) m.payload
purpose_of m WritePartial = to_write Update (content_format_of m.options) m.payload
purpose_of m WriteAttributes = to_write_attributes (queries_of m.options)
purpose_of m Create = to_create (content_format_of m.options) m.payload
purpose_of m Execute = to_execute (content_format_of m.options) m.payload
purpose_of m Delete = to_delete

-- what an operation answers and changes, with the queries and the payload of its message
abbrev pub outcome_by : Client → ℕ → Message → Request → Operation → Outcome
outcome_by client server m r Read = answer_alone client (read_answer client server r.path r.accept)
outcome_by client server m r Discover = answer_alone client (discover_answer client server r.path)
outcome_by client server m r WriteReplace = write_outcome client server Replace r.path r.content_format m.payload
outcome_by client server m r WritePartial = write_outcome client server Update r.path r.content_format m.payload
outcome_by client server m r WriteAttributes = attributes_outcome client server r.path (queries_of m.options)
outcome_by client server m r Create = create_outcome client server r.path r.content_format m.payload
outcome_by client server m r Execute = execute_outcome client server r.path r.content_format m.payload
outcome_by client server m r Delete = delete_outcome client server r.path

abbrev pub outcome_at : Client → ℕ → Message → Request → Outcome
outcome_at client server m r = outcome_by client server m r r.operation

-- a message that is refused as it is read changes nothing
abbrev pub outcome_for : Client → ℕ → Message → Result Request Ruling → Outcome
outcome_for client server m (Err ruling) = answer_alone client (bare ruling)
outcome_for client server m (Ok r) = outcome_at client server m r

-- what a request answers and changes
abbrev pub outcome_of : Client → ℕ → Message → Outcome
outcome_of client server m = outcome_for client server m (request_of m)
