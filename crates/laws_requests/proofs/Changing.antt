-- What kinds of thing an operation changes.
use Rattle.std.proofs.Common.{◌≡◌, ℕ, Bool, true, false, List, Option, None, Some, Result, Ok, Err, refl, sym, ap}
use Rattle.std.proofs.Common.{subst, ◌∙◌}
use Rattle.std.specs.Bool.{if◌then◌else◌}
use Rattle.std.specs.Option.{option_and_then, unwrap_or}
use Rattle.coap_codec.specs.Message.{Message}
use Rattle.object_defs.specs.Path.{object_in}
use Rattle.object_defs.specs.declared.path.Path.{Path}
use Rattle.object_defs.specs.declared.path.Path.TheVariants.{Object, Instance, Resource, Part}
use Rattle.object_defs.specs.declared.path.ResourcePath.{ResourcePath}
use Rattle.object_defs.specs.Catalog.{definition_of}
use Rattle.instance_store.specs.Stored.{Stored}
use Rattle.notifier.specs.Attributes.{Numbers}
use Rattle.device_firmware.specs.Firmware.{firmware_after, uri_of}
use Rattle.device_firmware.specs.declared.event.FirmwareEvent.{FirmwareEvent}
use Rattle.device_firmware.specs.declared.event.FirmwareEvent.TheVariants as event
use Rattle.device_firmware.proofs.AfterEvent.{same_instances, taken}
use Rattle.lwm2m_payloads.specs.Changes.{is_kept_as, with_given}
use Rattle.lwm2m_payloads.specs.Given.{instance_given}
use Rattle.lwm2m_payloads.specs.declared.fault.PayloadFault.{PayloadFault}
use Rattle.lwm2m_payloads.specs.declared.format.Format.{Format}
use Rattle.lwm2m_payloads.specs.declared.given.Assignment.{Assignment}
use Rattle.lwm2m_payloads.specs.declared.given.Given.{Given}
use Rattle.lwm2m_payloads.specs.declared.given.Mode.{Mode}
use Rattle.lwm2m_payloads.specs.declared.given.Mode.TheVariants.{Replace, Update}
use Rattle.lwm2m_payloads.proofs.Written.{given_instances, written_instances}
use Rattle.device_requests.specs.declared.operation.Operation.{Operation}
use Rattle.device_requests.specs.declared.operation.Operation.TheVariants.{Read, Discover, WriteAttributes}
use Rattle.device_requests.specs.declared.operation.Operation.TheVariants.{WriteReplace, WritePartial, Create, Execute}
use Rattle.device_requests.specs.declared.operation.Operation.TheVariants.{Delete}
use Rattle.device_requests.specs.Answer.{Outcome}
use Rattle.device_requests.specs.Client.{Client}
use Rattle.device_requests.specs.declared.create.Newborn.{Newborn}
use Rattle.device_requests.specs.declared.ruling.Ruling.{Ruling}
use Rattle.device_requests.specs.Create.{create_unless, newborn}
use Rattle.device_requests.specs.Execute.{execute_unless, with_no_error}
use Rattle.device_requests.specs.Options.{content_format_of, queries_of}
use Rattle.device_requests.specs.Outcomes.{write_outcome}
use Rattle.device_requests.specs.Refusals.{refusal_of, to_create, to_execute, to_write, to_write_attributes}
use Rattle.device_requests.specs.Request.{outcome_at, request_with}
use Rattle.device_requests.specs.Targets.{is_resource, place_of, resource_place, resources_defined}
use Rattle.device_requests.specs.Read.{format_at}
use Rattle.device_requests.specs.Write.{after_write, after_write_with_event, event_of, given_to_part, given_to_resource}
use Rattle.device_requests.specs.Write.{mode_at, new_values, values_given, write_unless}
use Rattle.device_requests.specs.WriteAttributes.{annotate_unless, attributes_given}
use Rattle.laws_requests.specs.Changes.{KeepsOthers, OperationsKeepOthers}
use Rattle.laws_requests.proofs.Asking.{comes_to}

-- ---- instances stay

pub firm_instances : (s : Stored) (e : FirmwareEvent) (after : Option Stored) → firmware_after s e ≡ after
    → (unwrap_or after s).instances ≡ s.instances
firm_instances s e None h = refl
firm_instances s e (Some t) h =
    let o = taken s t e h in sym (ap (λ (u : Stored). u.instances) o.1) ∙ same_instances s (uri_of e)

kept_instances : (b : Bool) (mode : Mode) (s : Stored) (p : ResourcePath) (given : Given)
    → (if b then with_given mode s p given else s).instances ≡ s.instances
kept_instances true mode s p given = given_instances mode given s p
kept_instances false mode s p given = refl

-- what a Write leaves where nothing goes to the firmware
abbrev writes : Client → Mode → Path → List ℕ → Option Format → Stored
writes client mode path payload format =
    after_write mode client.catalog client.store path
    (option_and_then (values_given client.catalog path payload) format)

instance_instances : (client : Client) (mode : Mode) (o i : ℕ) (payload : List ℕ) (f : Format)
    (given : Result (List Assignment) PayloadFault)
    → instance_given (resources_defined client.catalog o) i payload ≡ given
    → (writes client mode (Instance o i) payload (Some f)).instances ≡ client.store.instances
instance_instances client mode o i payload f (Err e) h = rw h refl
instance_instances client mode o i payload f (Ok given) h =
    rw h (written_instances mode (resources_defined client.catalog o) client.store (place_of o i) given)

resource_instances : (client : Client) (mode : Mode) (o i r : ℕ) (payload : List ℕ) (f : Format)
    (given : Result Given PayloadFault) → given_to_resource (definition_of client.catalog o r) f payload ≡ given
    → (writes client mode (Resource o i r) payload (Some f)).instances ≡ client.store.instances
resource_instances client mode o i r payload f (Err e) h = rw h refl
resource_instances client mode o i r payload f (Ok given) h =
    rw h
    (kept_instances (is_kept_as (definition_of client.catalog o r)) mode client.store (resource_place o i r) given)

part_instances : (client : Client) (mode : Mode) (o i r n : ℕ) (payload : List ℕ) (f : Format)
    (given : Result Given PayloadFault) → given_to_part (definition_of client.catalog o r) n f payload ≡ given
    → (writes client mode (Part o i r n) payload (Some f)).instances ≡ client.store.instances
part_instances client mode o i r n payload f (Err e) h = rw h refl
part_instances client mode o i r n payload f (Ok given) h =
    rw h
    (kept_instances (is_kept_as (definition_of client.catalog o r)) mode client.store (resource_place o i r) given)

written_keep : (client : Client) (mode : Mode) (path : Path) (payload : List ℕ) (format : Option Format)
    → (writes client mode path payload format).instances ≡ client.store.instances
written_keep client mode path payload None = refl
written_keep client mode (Object o) payload (Some f) = refl
written_keep client mode (Instance o i) payload (Some f) =
    instance_instances client mode o i payload f (instance_given (resources_defined client.catalog o) i payload) refl
written_keep client mode (Resource o i r) payload (Some f) =
    resource_instances client mode o i r payload f
    (given_to_resource (definition_of client.catalog o r) f payload) refl
written_keep client mode (Part o i r n) payload (Some f) =
    part_instances client mode o i r n payload f (given_to_part (definition_of client.catalog o r) n f payload) refl

left_instances : (mode : Mode) (client : Client) (path : Path) (number : Option ℕ) (payload : List ℕ)
    (e : Option FirmwareEvent)
    → (after_write_with_event mode client path (new_values client path number payload) e).instances
    ≡ client.store.instances
left_instances mode client path number payload (Some e) =
    firm_instances client.store e (firmware_after client.store e) refl
left_instances mode client path number payload None =
    written_keep client mode path payload (format_at client.catalog path number)

no_error_instances : (s : Stored) (path : Path) → (with_no_error s path).instances ≡ s.instances
no_error_instances s (Object o) = refl
no_error_instances s (Instance o i) = refl
no_error_instances s (Resource o i r) = refl
no_error_instances s (Part o i r n) = refl

executed_instances : (a b : Bool) (s : Stored) (path : Path)
    → (if a then unwrap_or (firmware_after s event.Update) s else if b then with_no_error s path else s).instances
    ≡ s.instances
executed_instances true b s path = firm_instances s event.Update (firmware_after s event.Update) refl
executed_instances false true s path = no_error_instances s path
executed_instances false false s path = refl

-- ---- by the operation

same : (client : Client) (operation : Operation) → KeepsOthers client client operation
same client operation = record { attributes = λ h. refl; instances = λ h. refl; values = λ h. refl }

annotated : (ruling : Option Ruling) (client : Client) (given : Option Numbers)
    → KeepsOthers client (annotate_unless ruling client given).client WriteAttributes
annotated None client None = same client WriteAttributes
annotated None client (Some m) = record { attributes = λ h. cc; instances = λ h. refl; values = λ h. refl }
annotated (Some ruling) client given = same client WriteAttributes

pub record KeepsMost (old new : Client) : Type 0 where
  pub attributes : new.attributes ≡ old.attributes
  pub instances : new.store.instances ≡ old.store.instances

write_keeps : (ruling : Option Ruling) (client : Client) (s : Stored) → s.instances ≡ client.store.instances
    → KeepsMost client (write_unless ruling client s).client
write_keeps None client s h = record { attributes = refl; instances = h }
write_keeps (Some ruling) client s h = record { attributes = refl; instances = refl }

pub wrote : (client : Client) (server : ℕ) (mode : Mode) (path : Path) (number : Option ℕ) (payload : List ℕ)
    → KeepsMost client (write_outcome client server mode path number payload).client
wrote client server mode path number payload =
    let values = new_values client path number payload in
    write_keeps (refusal_of client server path (to_write mode number payload)) client
    (after_write_with_event (mode_at mode path) client path values (event_of path values))
    (left_instances (mode_at mode path) client path number payload (event_of path values))

made : (ruling : Option Ruling) (client : Client) (server o : ℕ) (new : Option Newborn)
    → (create_unless ruling client server o new).client.attributes ≡ client.attributes
made None client server o None = refl
made None client server o (Some b) = refl
made (Some ruling) client server o new = refl

pub did : (ruling : Option Ruling) (client : Client) (path : Path)
    → KeepsMost client (execute_unless ruling client path).client
did None client path =
    record {
      attributes = refl;
      instances = executed_instances (is_resource 5 2 path) (is_resource 3 12 path) client.store path;
    }
did (Some ruling) client path = record { attributes = refl; instances = refl }

keeps_at : (client : Client) (server : ℕ) (m : Message) (path : Path) (operation : Operation)
    → KeepsOthers client (outcome_at client server m (request_with m path operation)).client operation
keeps_at client server m path Read = same client Read
keeps_at client server m path Discover = same client Discover
keeps_at client server m path WriteAttributes =
    let given = attributes_given client server path (queries_of m.options) in
    annotated (refusal_of client server path (to_write_attributes (queries_of m.options))) client given
keeps_at client server m path WriteReplace =
    let k = wrote client server Replace path (content_format_of m.options) m.payload in
    record { attributes = λ h. k.attributes; instances = λ h. k.instances; values = λ h. cc }
keeps_at client server m path WritePartial =
    let k = wrote client server Update path (content_format_of m.options) m.payload in
    record { attributes = λ h. k.attributes; instances = λ h. k.instances; values = λ h. cc }
keeps_at client server m path Create =
    record {
      attributes = λ h. made (refusal_of client server path (to_create (content_format_of m.options) m.payload))
          client server (object_in path) (newborn client (object_in path) m.payload);
      instances = λ h. cc;
      values = λ h. cc;
    }
keeps_at client server m path Execute =
    let k = did (refusal_of client server path (to_execute (content_format_of m.options) m.payload)) client path in
    record { attributes = λ h. k.attributes; instances = λ h. k.instances; values = λ h. cc }
keeps_at client server m path Delete = record { attributes = λ h. cc; instances = λ h. cc; values = λ h. cc }

pub others_kept : OperationsKeepOthers
others_kept client server m path operation asks =
    subst (λ (o : Outcome). KeepsOthers client o.client operation)
    (sym (comes_to client server m path operation asks)) (keeps_at client server m path operation)
