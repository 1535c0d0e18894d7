-- A request whose answer is not Created, Deleted or Changed changes nothing that a server can look at.
use Rattle.std.proofs.Common.{◌≡◌, ℕ, Bool, true, false, List, Option, None, Some, Result, Err, refl}
use Rattle.std.specs.Bool.{if◌then◌else◌}
use Rattle.coap_codec.specs.Message.{Message}
use Rattle.instance_store.specs.Stored.{Stored}
use Rattle.object_defs.specs.Path.{object_in}
use Rattle.object_defs.specs.declared.path.Path.{Path}
use Rattle.lwm2m_payloads.specs.declared.given.Mode.{Mode}
use Rattle.lwm2m_payloads.specs.declared.given.Mode.TheVariants.{Replace, Update}
use Rattle.notifier.specs.Attributes.{Numbers}
use Rattle.device_requests.specs.Answer.{Outcome, is_change}
use Rattle.device_requests.specs.Client.{Client}
use Rattle.device_requests.specs.declared.create.Newborn.{Newborn}
use Rattle.device_requests.specs.Create.{create_unless, newborn}
use Rattle.device_requests.specs.Delete.{delete_unless}
use Rattle.device_requests.specs.Execute.{execute_unless}
use Rattle.device_requests.specs.Operation.{operation_of}
use Rattle.device_requests.specs.Options.{accept_of, content_format_of, has_query, has_unrecognized_critical}
use Rattle.device_requests.specs.Options.{queries_of, segments_of, path_of}
use Rattle.device_requests.specs.Outcomes.{write_outcome}
use Rattle.device_requests.specs.Refusals.{refusal_of, to_create, to_delete, to_execute, to_write}
use Rattle.device_requests.specs.Refusals.{to_write_attributes}
use Rattle.device_requests.specs.Request.{outcome_at, outcome_for, request_by, request_on, request_with}
use Rattle.device_requests.specs.Ruling.{code_of}
use Rattle.device_requests.specs.Write.{after_write_with_event, event_of, mode_at, new_values, write_unless}
use Rattle.device_requests.specs.WriteAttributes.{annotate_unless, attributes_given}
use Rattle.device_requests.specs.declared.operation.Operation.{Operation}
use Rattle.device_requests.specs.declared.operation.Operation.TheVariants.{Read, Discover, WriteAttributes}
use Rattle.device_requests.specs.declared.operation.Operation.TheVariants.{WriteReplace, WritePartial, Create, Execute}
use Rattle.device_requests.specs.declared.operation.Operation.TheVariants.{Delete}
use Rattle.device_requests.specs.declared.request.Request.{Request}
use Rattle.device_requests.specs.declared.ruling.Ruling.{Ruling}
use Rattle.device_requests.specs.declared.ruling.Ruling.TheVariants as rule
use Rattle.device_requests.specs.Laws.{ChangesAreSaid}

abbrev Keeps : Client → Outcome → Type 0
Keeps client outcome = is_change (code_of outcome.answer.ruling) ≡ false → outcome.client ≡ client

written : (ruling : Option Ruling) (client : Client) (stored : Stored)
    → Keeps client (write_unless ruling client stored)
written None client stored h = cc
written (Some ruling) client stored h = refl

write : (client : Client) (server : ℕ) (mode : Mode) (path : Path) (number : Option ℕ) (payload : List ℕ)
    → Keeps client (write_outcome client server mode path number payload)
write client server mode path number payload =
    written (refusal_of client server path (to_write mode number payload)) client
    (after_write_with_event (mode_at mode path) client path (new_values client path number payload)
    (event_of path (new_values client path number payload)))

created : (ruling : Option Ruling) (client : Client) (server o : ℕ) (new : Option Newborn)
    → Keeps client (create_unless ruling client server o new)
created None client server o None h = refl
created None client server o (Some n) h = cc
created (Some ruling) client server o new h = refl

executed : (ruling : Option Ruling) (client : Client) (path : Path) → Keeps client (execute_unless ruling client path)
executed None client path h = cc
executed (Some ruling) client path h = refl

deleted : (ruling : Option Ruling) (client : Client) (path : Path) → Keeps client (delete_unless ruling client path)
deleted None client path h = cc
deleted (Some ruling) client path h = refl

annotated : (ruling : Option Ruling) (client : Client) (given : Option Numbers)
    → Keeps client (annotate_unless ruling client given)
annotated None client None h = refl
annotated None client (Some m) h = cc
annotated (Some ruling) client given h = refl

at_path : (client : Client) (server : ℕ) (m : Message) (path : Path) (operation : Operation)
    → Keeps client (outcome_at client server m (request_with m path operation))
at_path client server m path Read h = refl
at_path client server m path Discover h = refl
at_path client server m path WriteAttributes h =
    annotated (refusal_of client server path (to_write_attributes (queries_of m.options))) client
    (attributes_given client server path (queries_of m.options)) h
at_path client server m path WriteReplace h =
    write client server Replace path (content_format_of m.options) m.payload h
at_path client server m path WritePartial h =
    write client server Update path (content_format_of m.options) m.payload h
at_path client server m path Create h =
    created (refusal_of client server path (to_create (content_format_of m.options) m.payload)) client
    server (object_in path)
    (newborn client (object_in path) m.payload) h
at_path client server m path Execute h =
    executed (refusal_of client server path (to_execute (content_format_of m.options) m.payload)) client path h
at_path client server m path Delete h = deleted (refusal_of client server path to_delete) client path h

by_operation : (client : Client) (server : ℕ) (m : Message) (path : Path) (operation : Option Operation)
    → Keeps client (outcome_for client server m (request_by m path operation))
by_operation client server m path None h = refl
by_operation client server m path (Some operation) h = at_path client server m path operation h

by_path : (client : Client) (server : ℕ) (m : Message) (path : Option Path)
    → Keeps client (outcome_for client server m (request_on m path))
by_path client server m None h = refl
by_path client server m (Some path) h =
    by_operation client server m path (operation_of m.code (accept_of m.options) (has_query m.options) path) h

by_options : (b : Bool) (client : Client) (server : ℕ) (m : Message) (request : Result Request Ruling)
    → Keeps client (outcome_for client server m request)
    → Keeps client (outcome_for client server m (if b then Err rule.Options else request))
by_options true client server m request k h = refl
by_options false client server m request k h = k h

pub unchanged : ChangesAreSaid
unchanged client server m =
    by_options (has_unrecognized_critical m.options) client server m (request_on m (path_of (segments_of m.options)))
    (by_path client server m (path_of (segments_of m.options)))
