-- What a request makes of the attributes: it leaves them, sets some, or takes those away that go with an instance.
use Rattle.std.proofs.Common.{◌≡◌, ℕ, Bool, true, false, List, Option, None, Some, Result, Err, refl}
use Rattle.std.specs.Bool.{if◌then◌else◌}
use Rattle.coap_codec.specs.Message.{Message}
use Rattle.lwm2m_payloads.specs.declared.given.Mode.TheVariants.{Replace, Update}
use Rattle.object_defs.specs.declared.path.Path.{Path}
use Rattle.object_defs.specs.Path.{object_in}
use Rattle.instance_store.specs.Stored.{Stored}
use Rattle.notifier.specs.Attributes.{Numbers}
use Rattle.device_requests.specs.declared.operation.Operation.{Operation}
use Rattle.device_requests.specs.declared.operation.Operation.TheVariants.{Create, Delete, Discover, Execute, Read}
use Rattle.device_requests.specs.declared.operation.Operation.TheVariants.{WriteAttributes, WritePartial, WriteReplace}
use Rattle.device_requests.specs.declared.request.Request.{Request}
use Rattle.device_requests.specs.Client.{Client}
use Rattle.device_requests.specs.declared.create.Newborn.{Newborn}
use Rattle.device_requests.specs.declared.ruling.Ruling.{Ruling}
use Rattle.device_requests.specs.declared.ruling.Ruling.TheVariants as rule
use Rattle.device_requests.specs.Create.{create_unless, newborn}
use Rattle.device_requests.specs.Delete.{attributes_after_delete, delete_unless}
use Rattle.device_requests.specs.Execute.{execute_unless}
use Rattle.device_requests.specs.Operation.{operation_of}
use Rattle.device_requests.specs.Options.{accept_of, content_format_of, has_query, has_unrecognized_critical}
use Rattle.device_requests.specs.Options.{path_of as path_in, queries_of, segments_of}
use Rattle.device_requests.specs.Refusals.{refusal_of, to_create, to_delete, to_execute, to_write, to_write_attributes}
use Rattle.device_requests.specs.Request.{outcome_at, outcome_for, outcome_of, request_by, request_on, request_with}
use Rattle.device_requests.specs.Write.{after_write_with_event, event_of, mode_at, new_values, write_unless}
use Rattle.device_requests.specs.WriteAttributes.{annotate_unless, attributes_given}

pub data Becomes (client : Client) (server : ℕ) : Numbers → Type 0 where
  stays : Becomes client server client.attributes
  is_set : (path : Path) (queries : List (List ℕ)) (m : Numbers)
      → attributes_given client server path queries ≡ Some m → Becomes client server m
  goes : (path : Path) → Becomes client server (attributes_after_delete client path)

wrote : (ruling : Option Ruling) (client : Client) (server : ℕ) (s : Stored)
    → Becomes client server (write_unless ruling client s).client.attributes
wrote None client server s = stays
wrote (Some ruling) client server s = stays

made : (ruling : Option Ruling) (client : Client) (server o : ℕ) (new : Option Newborn)
    → Becomes client server (create_unless ruling client server o new).client.attributes
made None client server o None = stays
made None client server o (Some b) = stays
made (Some ruling) client server o new = stays

did : (ruling : Option Ruling) (client : Client) (server : ℕ) (path : Path)
    → Becomes client server (execute_unless ruling client path).client.attributes
did None client server path = stays
did (Some ruling) client server path = stays

took : (ruling : Option Ruling) (client : Client) (server : ℕ) (path : Path)
    → Becomes client server (delete_unless ruling client path).client.attributes
took None client server path = goes path
took (Some ruling) client server path = stays

annotated : (ruling : Option Ruling) (client : Client) (server : ℕ) (path : Path) (queries : List (List ℕ))
    (given : Option Numbers) → attributes_given client server path queries ≡ given
    → Becomes client server (annotate_unless ruling client given).client.attributes
annotated None client server path queries None e = stays
annotated None client server path queries (Some m) e = is_set path queries m e
annotated (Some ruling) client server path queries given e = stays

becomes_at : (client : Client) (server : ℕ) (m : Message) (path : Path) (operation : Operation)
    → Becomes client server (outcome_at client server m (request_with m path operation)).client.attributes
becomes_at client server m path Read = stays
becomes_at client server m path Discover = stays
becomes_at client server m path WriteAttributes =
    let given = attributes_given client server path (queries_of m.options) in
    annotated (refusal_of client server path (to_write_attributes (queries_of m.options))) client server path
    (queries_of m.options) given refl
becomes_at client server m path WriteReplace =
    let values = new_values client path (content_format_of m.options) m.payload in
    wrote (refusal_of client server path (to_write Replace (content_format_of m.options) m.payload)) client server
    (after_write_with_event (mode_at Replace path) client path values (event_of path values))
becomes_at client server m path WritePartial =
    let values = new_values client path (content_format_of m.options) m.payload in
    wrote (refusal_of client server path (to_write Update (content_format_of m.options) m.payload)) client server
    (after_write_with_event (mode_at Update path) client path values (event_of path values))
becomes_at client server m path Create =
    made (refusal_of client server path (to_create (content_format_of m.options) m.payload)) client server
    (object_in path) (newborn client (object_in path) m.payload)
becomes_at client server m path Execute =
    did (refusal_of client server path (to_execute (content_format_of m.options) m.payload)) client server path
becomes_at client server m path Delete = took (refusal_of client server path to_delete) client server path

becomes_by : (client : Client) (server : ℕ) (m : Message) (path : Path) (operation : Option Operation)
    → Becomes client server (outcome_for client server m (request_by m path operation)).client.attributes
becomes_by client server m path None = stays
becomes_by client server m path (Some operation) = becomes_at client server m path operation

becomes_on : (client : Client) (server : ℕ) (m : Message) (path : Option Path)
    → Becomes client server (outcome_for client server m (request_on m path)).client.attributes
becomes_on client server m None = stays
becomes_on client server m (Some path) =
    becomes_by client server m path (operation_of m.code (accept_of m.options) (has_query m.options) path)

becomes_if : (b : Bool) (client : Client) (server : ℕ) (m : Message) (request : Result Request Ruling)
    → Becomes client server (outcome_for client server m request).client.attributes
    → Becomes client server (outcome_for client server m (if b then Err rule.Options else request)).client.attributes
becomes_if true client server m request h = stays
becomes_if false client server m request h = h

pub becomes : (client : Client) (server : ℕ) (m : Message)
    → Becomes client server (outcome_of client server m).client.attributes
becomes client server m =
    becomes_if (has_unrecognized_critical m.options) client server m (request_on m (path_in (segments_of m.options)))
    (becomes_on client server m (path_in (segments_of m.options)))
