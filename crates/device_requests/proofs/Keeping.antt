-- No request changes the accounts or the catalog.
use Rattle.std.proofs.Common.{ℕ, Bool, true, false, List, Option, None, Some, Result, Err, refl}
use Rattle.std.specs.Bool.{if◌then◌else◌}
use Rattle.coap_codec.specs.Message.{Message}
use Rattle.instance_store.specs.Stored.{Stored}
use Rattle.object_defs.specs.declared.path.Path.{Path}
use Rattle.lwm2m_payloads.specs.declared.given.Mode.{Mode}
use Rattle.lwm2m_payloads.specs.declared.given.Mode.TheVariants.{Replace, Update}
use Rattle.device_requests.specs.declared.operation.Operation.{Operation}
use Rattle.device_requests.specs.declared.operation.Operation.TheVariants.{Read, Discover, WriteAttributes}
use Rattle.device_requests.specs.declared.operation.Operation.TheVariants.{WriteReplace, WritePartial, Create, Execute}
use Rattle.device_requests.specs.declared.operation.Operation.TheVariants.{Delete}
use Rattle.device_requests.specs.declared.request.Request.{Request}
use Rattle.notifier.specs.Attributes.{Numbers}
use Rattle.device_requests.specs.WriteAttributes.{annotate_unless, attributes_given}
use Rattle.device_requests.specs.Client.{Client}
use Rattle.object_defs.specs.Path.{object_in}
use Rattle.device_requests.specs.declared.create.Newborn.{Newborn}
use Rattle.device_requests.specs.declared.ruling.Ruling.{Ruling}
use Rattle.device_requests.specs.declared.ruling.Ruling.TheVariants as rule
use Rattle.device_requests.specs.Create.{create_unless, newborn}
use Rattle.device_requests.specs.Delete.{delete_unless}
use Rattle.device_requests.specs.Execute.{execute_unless}
use Rattle.device_requests.specs.Operation.{operation_of}
use Rattle.device_requests.specs.Options.{accept_of, content_format_of, has_query, has_unrecognized_critical}
use Rattle.device_requests.specs.Options.{queries_of, segments_of, path_of}
use Rattle.device_requests.specs.Outcomes.{write_outcome}
use Rattle.device_requests.specs.Refusals.{refusal_of, to_create, to_delete, to_execute, to_write, to_write_attributes}
use Rattle.device_requests.specs.Request.{outcome_at, outcome_for, outcome_of, request_by, request_on, request_with}
use Rattle.device_requests.specs.Write.{after_write_with_event, event_of, mode_at, new_values, write_unless}
use Rattle.device_requests.specs.Laws.{KeepsFrame}

unless_keeps : (ruling : Option Ruling) (client : Client) (stored : Stored)
    → KeepsFrame client (write_unless ruling client stored).client
unless_keeps None client stored = record { accounts = refl; catalog = refl }
unless_keeps (Some ruling) client stored = record { accounts = refl; catalog = refl }

same : (client : Client) → KeepsFrame client client
same client = record { accounts = refl; catalog = refl }

write_keeps : (client : Client) (server : ℕ) (mode : Mode) (path : Path) (number : Option ℕ) (payload : List ℕ)
    → KeepsFrame client (write_outcome client server mode path number payload).client
write_keeps client server mode path number payload =
    unless_keeps (refusal_of client server path (to_write mode number payload)) client
    (after_write_with_event (mode_at mode path) client path (new_values client path number payload)
    (event_of path (new_values client path number payload)))

create_keeps : (ruling : Option Ruling) (client : Client) (server o : ℕ) (new : Option Newborn)
    → KeepsFrame client (create_unless ruling client server o new).client
create_keeps None client server o None = record { accounts = refl; catalog = refl }
create_keeps None client server o (Some n) = record { accounts = refl; catalog = refl }
create_keeps (Some ruling) client server o new = record { accounts = refl; catalog = refl }

execute_keeps : (ruling : Option Ruling) (client : Client) (path : Path)
    → KeepsFrame client (execute_unless ruling client path).client
execute_keeps None client path = record { accounts = refl; catalog = refl }
execute_keeps (Some ruling) client path = record { accounts = refl; catalog = refl }

delete_keeps : (ruling : Option Ruling) (client : Client) (path : Path)
    → KeepsFrame client (delete_unless ruling client path).client
delete_keeps None client path = record { accounts = refl; catalog = refl }
delete_keeps (Some ruling) client path = record { accounts = refl; catalog = refl }

attributes_keep : (ruling : Option Ruling) (client : Client) (given : Option Numbers)
    → KeepsFrame client (annotate_unless ruling client given).client
attributes_keep None client None = record { accounts = refl; catalog = refl }
attributes_keep None client (Some m) = record { accounts = refl; catalog = refl }
attributes_keep (Some ruling) client given = record { accounts = refl; catalog = refl }

keeps_at : (client : Client) (server : ℕ) (m : Message) (path : Path) (operation : Operation)
    → KeepsFrame client (outcome_at client server m (request_with m path operation)).client
keeps_at client server m path Read = same client
keeps_at client server m path Discover = same client
keeps_at client server m path WriteAttributes =
    attributes_keep (refusal_of client server path (to_write_attributes (queries_of m.options))) client
    (attributes_given client server path (queries_of m.options))
keeps_at client server m path WriteReplace =
    write_keeps client server Replace path (content_format_of m.options) m.payload
keeps_at client server m path WritePartial =
    write_keeps client server Update path (content_format_of m.options) m.payload
keeps_at client server m path Create =
    create_keeps (refusal_of client server path (to_create (content_format_of m.options) m.payload)) client server
    (object_in path)
    (newborn client (object_in path) m.payload)
keeps_at client server m path Execute =
    execute_keeps (refusal_of client server path (to_execute (content_format_of m.options) m.payload)) client path
keeps_at client server m path Delete = delete_keeps (refusal_of client server path to_delete) client path

keeps_by : (client : Client) (server : ℕ) (m : Message) (path : Path) (operation : Option Operation)
    → KeepsFrame client (outcome_for client server m (request_by m path operation)).client
keeps_by client server m path None = same client
keeps_by client server m path (Some operation) = keeps_at client server m path operation

keeps_on : (client : Client) (server : ℕ) (m : Message) (path : Option Path)
    → KeepsFrame client (outcome_for client server m (request_on m path)).client
keeps_on client server m None = same client
keeps_on client server m (Some path) =
    keeps_by client server m path (operation_of m.code (accept_of m.options) (has_query m.options) path)

keeps_if : (b : Bool) (client : Client) (server : ℕ) (m : Message) (request : Result Request Ruling)
    → KeepsFrame client (outcome_for client server m request).client
    → KeepsFrame client (outcome_for client server m (if b then Err rule.Options else request)).client
keeps_if true client server m request k = same client
keeps_if false client server m request k = k

-- a request leaves the accounts and the catalog
pub keeps : (client : Client) (server : ℕ) (m : Message) → KeepsFrame client (outcome_of client server m).client
keeps client server m =
    keeps_if (has_unrecognized_critical m.options) client server m (request_on m (path_of (segments_of m.options)))
    (keeps_on client server m (path_of (segments_of m.options)))
