-- No request changes how a device notifies.
use Rattle.std.proofs.Common.{◌≡◌, ℕ, Bool, true, false, Option, None, Some, Result, Err, refl}
use Rattle.std.specs.Bool.{if◌then◌else◌}
use Rattle.coap_codec.specs.Message.{Message}
use Rattle.instance_store.specs.Stored.{Stored}
use Rattle.object_defs.specs.Path.{object_in}
use Rattle.object_defs.specs.declared.path.Path.{Path}
use Rattle.notifier.specs.Attributes.{Numbers}
use Rattle.device_requests.specs.Client.{Client}
use Rattle.device_requests.specs.declared.create.Newborn.{Newborn}
use Rattle.device_requests.specs.Create.{create_unless, newborn}
use Rattle.device_requests.specs.Delete.{delete_unless}
use Rattle.device_requests.specs.Execute.{execute_unless}
use Rattle.device_requests.specs.Operation.{operation_of}
use Rattle.device_requests.specs.Options.{accept_of, content_format_of, has_query, has_unrecognized_critical}
use Rattle.device_requests.specs.Options.{queries_of, segments_of, path_of}
use Rattle.device_requests.specs.Refusals.{refusal_of, to_create, to_delete, to_execute, to_write_attributes}
use Rattle.device_requests.specs.Request.{outcome_at, outcome_for, outcome_of, request_by, request_on, request_with}
use Rattle.device_requests.specs.Write.{write_unless}
use Rattle.device_requests.specs.WriteAttributes.{annotate_unless, attributes_given}
use Rattle.device_requests.specs.declared.operation.Operation.{Operation}
use Rattle.device_requests.specs.declared.operation.Operation.TheVariants.{Read, Discover, WriteAttributes}
use Rattle.device_requests.specs.declared.operation.Operation.TheVariants.{WriteReplace, WritePartial, Create, Execute}
use Rattle.device_requests.specs.declared.operation.Operation.TheVariants.{Delete}
use Rattle.device_requests.specs.declared.request.Request.{Request}
use Rattle.device_requests.specs.declared.ruling.Ruling.{Ruling}
use Rattle.device_requests.specs.declared.ruling.Ruling.TheVariants as rule

unless_keeps : (ruling : Option Ruling) (client : Client) (stored : Stored)
    → (write_unless ruling client stored).client.notify ≡ client.notify
unless_keeps None client stored = refl
unless_keeps (Some ruling) client stored = refl

create_keeps : (ruling : Option Ruling) (client : Client) (server o : ℕ) (new : Option Newborn)
    → (create_unless ruling client server o new).client.notify ≡ client.notify
create_keeps None client server o None = refl
create_keeps None client server o (Some n) = refl
create_keeps (Some ruling) client server o new = refl

execute_keeps : (ruling : Option Ruling) (client : Client) (path : Path)
    → (execute_unless ruling client path).client.notify ≡ client.notify
execute_keeps None client path = refl
execute_keeps (Some ruling) client path = refl

delete_keeps : (ruling : Option Ruling) (client : Client) (path : Path)
    → (delete_unless ruling client path).client.notify ≡ client.notify
delete_keeps None client path = refl
delete_keeps (Some ruling) client path = refl

attributes_keep : (ruling : Option Ruling) (client : Client) (given : Option Numbers)
    → (annotate_unless ruling client given).client.notify ≡ client.notify
attributes_keep None client None = refl
attributes_keep None client (Some m) = refl
attributes_keep (Some ruling) client given = refl

keeps_at : (client : Client) (server : ℕ) (m : Message) (path : Path) (operation : Operation)
    → (outcome_at client server m (request_with m path operation)).client.notify ≡ client.notify
keeps_at client server m path Read = refl
keeps_at client server m path Discover = refl
keeps_at client server m path WriteAttributes =
    attributes_keep (refusal_of client server path (to_write_attributes (queries_of m.options))) client
    (attributes_given client server path (queries_of m.options))
keeps_at client server m path WriteReplace = unless_keeps _ client _
keeps_at client server m path WritePartial = unless_keeps _ client _
keeps_at client server m path Create =
    create_keeps (refusal_of client server path (to_create (content_format_of m.options) m.payload)) client server
    (object_in path)
    (newborn client (object_in path) m.payload)
keeps_at client server m path Execute =
    execute_keeps (refusal_of client server path (to_execute (content_format_of m.options) m.payload)) client path
keeps_at client server m path Delete = delete_keeps (refusal_of client server path to_delete) client path

keeps_by : (client : Client) (server : ℕ) (m : Message) (path : Path) (operation : Option Operation)
    → (outcome_for client server m (request_by m path operation)).client.notify ≡ client.notify
keeps_by client server m path None = refl
keeps_by client server m path (Some operation) = keeps_at client server m path operation

keeps_on : (client : Client) (server : ℕ) (m : Message) (path : Option Path)
    → (outcome_for client server m (request_on m path)).client.notify ≡ client.notify
keeps_on client server m None = refl
keeps_on client server m (Some path) =
    keeps_by client server m path (operation_of m.code (accept_of m.options) (has_query m.options) path)

keeps_if : (b : Bool) (client : Client) (server : ℕ) (m : Message) (request : Result Request Ruling)
    → (outcome_for client server m request).client.notify ≡ client.notify
    → (outcome_for client server m (if b then Err rule.Options else request)).client.notify ≡ client.notify
keeps_if true client server m request k = refl
keeps_if false client server m request k = k

pub keeps_notify : (client : Client) (server : ℕ) (m : Message)
    → (outcome_of client server m).client.notify ≡ client.notify
keeps_notify client server m =
    keeps_if (has_unrecognized_critical m.options) client server m (request_on m (path_of (segments_of m.options)))
    (keeps_on client server m (path_of (segments_of m.options)))
