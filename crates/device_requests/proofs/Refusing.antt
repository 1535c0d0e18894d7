-- A request that is refused changes nothing, and its answer is a code alone.
use Rattle.std.proofs.Common.{◌≡◌, ℕ, Bool, true, false, List, Option, None, Some, Result, Err, refl, ap}
use Rattle.std.specs.Bool.{if◌then◌else◌}
use Rattle.coap_codec.specs.Message.{Message}
use Rattle.instance_store.specs.Stored.{Stored}
use Rattle.object_defs.specs.declared.path.Path.{Path}
use Rattle.device_requests.specs.declared.answer.Answer.{Answer}
use Rattle.device_requests.specs.declared.operation.Operation.{Operation}
use Rattle.device_requests.specs.declared.operation.Operation.TheVariants.{Read, Discover, WriteAttributes}
use Rattle.device_requests.specs.declared.operation.Operation.TheVariants.{WriteReplace, WritePartial, Create, Execute}
use Rattle.device_requests.specs.declared.operation.Operation.TheVariants.{Delete}
use Rattle.device_requests.specs.declared.request.Request.{Request}
use Rattle.notifier.specs.Attributes.{Numbers}
use Rattle.device_requests.specs.WriteAttributes.{annotate_unless, attributes_given}
use Rattle.device_requests.specs.Answer.{Outcome, answer_alone, bare, content, refused_or}
use Rattle.device_requests.specs.Discover.{discover_payload}
use Rattle.device_requests.specs.Read.{content_in, format_at, read_payload}
use Rattle.lwm2m_payloads.specs.declared.format.Format.{Format}
use Rattle.lwm2m_payloads.specs.declared.given.Mode.{Mode}
use Rattle.lwm2m_payloads.specs.declared.given.Mode.TheVariants.{Replace, Update}
use Rattle.object_defs.specs.Path.{object_in}
use Rattle.device_requests.specs.declared.create.Newborn.{Newborn}
use Rattle.device_requests.specs.declared.ruling.Ruling.{Ruling}
use Rattle.device_requests.specs.declared.ruling.Ruling.TheVariants as rule
use Rattle.device_requests.specs.Create.{create_unless, newborn}
use Rattle.device_requests.specs.Delete.{delete_unless}
use Rattle.device_requests.specs.Execute.{execute_unless}
use Rattle.device_requests.specs.Operation.{operation_of}
use Rattle.device_requests.specs.Options.{accept_of, content_format_of, has_query, has_unrecognized_critical}
use Rattle.device_requests.specs.Options.{queries_of, segments_of, path_of}
use Rattle.device_requests.specs.Outcomes.{write_outcome}
use Rattle.device_requests.specs.Refusals.{refusal_of, to_create, to_delete, to_discover, to_execute, to_read, to_write}
use Rattle.device_requests.specs.Refusals.{to_write_attributes}
use Rattle.device_requests.specs.Request.{outcome_at, outcome_for, outcome_of, request_by, request_on, request_with}
use Rattle.device_requests.specs.Ruling.{code_of}
use Rattle.device_requests.specs.Write.{after_write_with_event, event_of, mode_at, new_values, write_unless}
use Rattle.device_requests.specs.Client.{Client}
use Rattle.device_requests.specs.Laws.{RefusalIsCodeAlone, RefusalKeeps, is_refusal}

-- a refusal is its code
abbrev Keeps : Client → Outcome → Type 0
Keeps client outcome =
    is_refusal (code_of outcome.answer.ruling) ≡ true → outcome ≡ answer_alone client (bare outcome.answer.ruling)

unless_refused : (ruling : Option Ruling) (client : Client) (stored : Stored)
    → Keeps client (write_unless ruling client stored)
unless_refused None client stored h = cc
unless_refused (Some ruling) client stored h = refl

refused_write : (client : Client) (server : ℕ) (mode : Mode) (path : Path) (number : Option ℕ) (payload : List ℕ)
    → Keeps client (write_outcome client server mode path number payload)
refused_write client server mode path number payload =
    unless_refused (refusal_of client server path (to_write mode number payload)) client
    (after_write_with_event (mode_at mode path) client path (new_values client path number payload)
    (event_of path (new_values client path number payload)))

refused_create : (ruling : Option Ruling) (client : Client) (server o : ℕ) (new : Option Newborn)
    → Keeps client (create_unless ruling client server o new)
refused_create None client server o None h = refl
refused_create None client server o (Some n) h = cc
refused_create (Some ruling) client server o new h = refl

refused_execute : (ruling : Option Ruling) (client : Client) (path : Path)
    → Keeps client (execute_unless ruling client path)
refused_execute None client path h = cc
refused_execute (Some ruling) client path h = refl

refused_delete : (ruling : Option Ruling) (client : Client) (path : Path)
    → Keeps client (delete_unless ruling client path)
refused_delete None client path h = cc
refused_delete (Some ruling) client path h = refl

refused_attributes : (ruling : Option Ruling) (client : Client) (given : Option Numbers)
    → Keeps client (annotate_unless ruling client given)
refused_attributes None client None h = refl
refused_attributes None client (Some m) h = cc
refused_attributes (Some ruling) client given h = refl

refused_read : (ruling : Option Ruling) (client : Client) (format : Option Format) (payload : List ℕ)
    → Keeps client (answer_alone client (refused_or ruling (content_in format payload)))
refused_read None client None payload h = refl
refused_read None client (Some format) payload h = cc
refused_read (Some ruling) client format payload h = refl

refused_discover : (ruling : Option Ruling) (client : Client) (payload : List ℕ)
    → Keeps client (answer_alone client (refused_or ruling (content 40 payload)))
refused_discover None client payload h = cc
refused_discover (Some ruling) client payload h = refl

refused_at : (client : Client) (server : ℕ) (m : Message) (path : Path) (operation : Operation)
    → Keeps client (outcome_at client server m (request_with m path operation))
refused_at client server m path Read h =
    refused_read (refusal_of client server path (to_read (accept_of m.options))) client
    (format_at client.catalog path (accept_of m.options)) (read_payload client server path (accept_of m.options)) h
refused_at client server m path Discover h =
    refused_discover (refusal_of client server path to_discover) client (discover_payload client server path) h
refused_at client server m path WriteAttributes h =
    refused_attributes (refusal_of client server path (to_write_attributes (queries_of m.options))) client
    (attributes_given client server path (queries_of m.options)) h
refused_at client server m path WriteReplace h =
    refused_write client server Replace path (content_format_of m.options) m.payload h
refused_at client server m path WritePartial h =
    refused_write client server Update path (content_format_of m.options) m.payload h
refused_at client server m path Create h =
    refused_create (refusal_of client server path (to_create (content_format_of m.options) m.payload)) client
    server (object_in path)
    (newborn client (object_in path) m.payload) h
refused_at client server m path Execute h =
    refused_execute (refusal_of client server path (to_execute (content_format_of m.options) m.payload)) client
    path h
refused_at client server m path Delete h = refused_delete (refusal_of client server path to_delete) client path h

refused_by : (client : Client) (server : ℕ) (m : Message) (path : Path) (operation : Option Operation)
    → Keeps client (outcome_for client server m (request_by m path operation))
refused_by client server m path None h = refl
refused_by client server m path (Some operation) h = refused_at client server m path operation h

refused_on : (client : Client) (server : ℕ) (m : Message) (path : Option Path)
    → Keeps client (outcome_for client server m (request_on m path))
refused_on client server m None h = refl
refused_on client server m (Some path) h =
    refused_by client server m path (operation_of m.code (accept_of m.options) (has_query m.options) path) h

refused_if : (b : Bool) (client : Client) (server : ℕ) (m : Message) (request : Result Request Ruling)
    → Keeps client (outcome_for client server m request)
    → Keeps client (outcome_for client server m (if b then Err rule.Options else request))
refused_if true client server m request k h = refl
refused_if false client server m request k h = k h

refused_whole : (client : Client) (server : ℕ) (m : Message) → Keeps client (outcome_of client server m)
refused_whole client server m =
    refused_if (has_unrecognized_critical m.options) client server m (request_on m (path_of (segments_of m.options)))
    (refused_on client server m (path_of (segments_of m.options)))

-- a request that is refused changes nothing
pub refused_keeps : RefusalKeeps
refused_keeps client server m h = ap (λ (o : Outcome). o.client) (refused_whole client server m h)

-- its answer is a code alone
pub refused_alone : RefusalIsCodeAlone
refused_alone client server m h =
    let is = ap (λ (o : Outcome). o.answer) (refused_whole client server m h) in
    record {
      location = ap (λ (a : Answer). a.location) is;
      format = ap (λ (a : Answer). a.format) is;
      payload = ap (λ (a : Answer). a.payload) is;
      act = ap (λ (a : Answer). a.act) is;
    }
