-- What a request that is done changes.
use Rattle.std.proofs.Common.{◌≡◌, ◌≢◌, ℕ, Bool, true, false, not, ◌==◌, ◌&&◌, List, Option, None, Some}
use Rattle.std.proofs.Common.{Ok, refl, sym, ap, subst, ◌∙◌}
use Rattle.std.specs.Bool.{if◌then◌else◌}
use Rattle.std.specs.Option.{is_some, option_and_then, unwrap_or}
use Rattle.std.proofs.lemmas.Bool.{eqb-true}
use Rattle.lemmas.proofs.Options.{some_if_denied}
use Rattle.coap_codec.specs.Message.{Message}
use Rattle.object_defs.specs.Catalog.{definition_of}
use Rattle.object_defs.specs.Operations.{can_read}
use Rattle.object_defs.specs.Path.{object_in}
use Rattle.object_defs.specs.declared.definition.ResourceDef.{ResourceDef}
use Rattle.object_defs.specs.declared.path.FullPath.{FullPath}
use Rattle.object_defs.specs.declared.path.Path.{Path}
use Rattle.object_defs.specs.declared.path.Path.TheVariants.{Object, Instance, Resource, Part}
use Rattle.instance_store.specs.Stored.{Stored, lies_in, value_at}
use Rattle.notifier.specs.Attributes.{Numbers}
use Rattle.device_firmware.specs.Firmware.{firmware_after}
use Rattle.device_firmware.specs.declared.event.FirmwareEvent.{FirmwareEvent}
use Rattle.lwm2m_payloads.specs.Written.{value_with}
use Rattle.lwm2m_payloads.specs.Changes.{with_given}
use Rattle.lwm2m_payloads.specs.declared.format.Format.{Format}
use Rattle.lwm2m_payloads.specs.declared.given.Given.{Given}
use Rattle.lwm2m_payloads.specs.declared.given.Mode.{Mode}
use Rattle.lwm2m_payloads.specs.declared.given.Mode.TheVariants.{Replace, Update}
use Rattle.lwm2m_payloads.proofs.EachOnce.{resource_once}
use Rattle.device_requests.specs.declared.operation.Operation.{Operation}
use Rattle.device_requests.specs.declared.operation.Operation.TheVariants.{Read, Discover, WriteAttributes}
use Rattle.device_requests.specs.declared.operation.Operation.TheVariants.{WriteReplace, WritePartial, Create, Execute}
use Rattle.device_requests.specs.declared.operation.Operation.TheVariants.{Delete}
use Rattle.device_requests.specs.Answer.{Outcome}
use Rattle.device_requests.specs.Client.{Client, with_attributes, with_stored}
use Rattle.device_requests.specs.declared.create.Newborn.{Newborn}
use Rattle.device_requests.specs.declared.ruling.Ruling.{Ruling}
use Rattle.device_requests.specs.declared.answer.Code.TheVariants.{Changed, Created, Deleted}
use Rattle.device_requests.specs.Create.{create_unless, newborn}
use Rattle.device_requests.specs.Delete.{delete_unless}
use Rattle.device_requests.specs.Execute.{execute_unless}
use Rattle.device_requests.specs.Options.{content_format_of, queries_of}
use Rattle.device_requests.specs.Outcomes.{create_outcome, delete_outcome, execute_outcome}
use Rattle.device_requests.specs.Outcomes.{write_outcome}
use Rattle.device_requests.specs.Refusals.{done_ruling, is_refused_now, refusal_of, refusals_of, to_create, to_delete}
use Rattle.device_requests.specs.Refusals.{to_execute, to_write, to_write_attributes}
use Rattle.device_requests.specs.Request.{outcome_at, purpose_of, request_with}
use Rattle.device_requests.specs.Ruling.{code_of}
use Rattle.device_requests.specs.Targets.{is_resource, place_of, resource_place}
use Rattle.device_requests.specs.Write.{after_write, after_write_with_event, event_of, given_to_resource, mode_at}
use Rattle.device_requests.specs.Write.{new_values, values_given, write_unless}
use Rattle.device_requests.specs.WriteAttributes.{annotate_unless, attributes_given}
use Rattle.laws_requests.specs.Creations.{IsCreated}
use Rattle.laws_requests.specs.Deletions.{TakesAway}
use Rattle.laws_requests.specs.Done.{Adds, Changes, DoneIsChanged, Executes, Removes, WritesTo}
use Rattle.laws_requests.specs.Executions.{BeginsUpdate, HasNoError}
use Rattle.laws_requests.specs.Taken.{IsTaken}
use Rattle.laws_requests.specs.Writes.{IsInstanceWritten, IsPartWritten, IsResourceWritten}
use Rattle.laws_requests.proofs.Annotating.{attributes_set}
use Rattle.laws_requests.proofs.Asking.{chosen, comes_to, fails}
use Rattle.laws_requests.proofs.Changing.{did, wrote}
use Rattle.laws_requests.proofs.Creating.{creates_add}
use Rattle.laws_requests.proofs.Deleting.{deletes_take}
use Rattle.laws_requests.proofs.Executing.{errors_reset, executes_keep, updates_begin}
use Rattle.laws_requests.proofs.PartWriting.{parts_written}
use Rattle.laws_requests.proofs.Taking.{is_taken}
use Rattle.laws_requests.proofs.Writing.{comes, instances_written, is_defined, is_stored, kept_at, leaves}
use Rattle.laws_requests.proofs.Writing.{resource_good}
use Rattle.laws_requests.proofs.Writing.{unrefused}

-- ---- a Write of a resource that the firmware does not take

is_written : (client : Client) (mode : Mode) (o i r : ℕ) (payload : List ℕ) (f : Format) (d : ResourceDef)
    (given : Given) → given_to_resource (definition_of client.catalog o r) f payload ≡ Ok given
    → definition_of client.catalog o r ≡ Some d
    → after_write mode client.catalog client.store (Resource o i r)
    (values_given client.catalog (Resource o i r) payload f)
    ≡ (if can_read d.ops then with_given mode client.store (resource_place o i r) given else client.store)
is_written client mode o i r payload f d given h k = rw (h, k) refl

untaken : (client : Client) (mode : Mode) (o i r : ℕ) (payload : List ℕ) (f : Format) (d : ResourceDef)
    (given : Given) → given_to_resource (definition_of client.catalog o r) f payload ≡ Ok given
    → definition_of client.catalog o r ≡ Some d
    → event_of (Resource o i r) (values_given client.catalog (Resource o i r) payload f) ≡ None
    → leaves client mode (Resource o i r) payload (Some f)
    ≡ (if can_read d.ops then with_given mode client.store (resource_place o i r) given else client.store)
untaken client mode o i r payload f d given h k e =
    ap (after_write_with_event mode client (Resource o i r) (values_given client.catalog (Resource o i r) payload f)) e
    ∙ is_written client mode o i r payload f d given h k

resource_stored : (client : Client) (server : ℕ) (mode : Mode) (o i r : ℕ) (number : Option ℕ) (payload : List ℕ)
    → event_of (Resource o i r) (new_values client (Resource o i r) number payload) ≡ None
    → code_of (write_outcome client server mode (Resource o i r) number payload).answer.ruling ≡ Changed
    → IsResourceWritten client mode o i r number payload
    (write_outcome client server mode (Resource o i r) number payload).client.store
resource_stored client server mode o i r number payload none h =
    let path = Resource o i r in
    let p = resource_place o i r in
    let c = comes client server mode path number payload h in
    let g = resource_good client o i r payload c.format
    (given_to_resource (definition_of client.catalog o r) c.format payload) refl c.good in
    let given = g.0 in
    let d = is_defined (definition_of client.catalog o r) c.format payload given g.1 in
    let once = resource_once d.0 c.format payload given d.2 in
    let event : event_of path (values_given client.catalog path payload c.format) ≡ None =
    sym (ap (λ (f : Option Format). event_of path (option_and_then (values_given client.catalog path payload) f))
    c.served) ∙ none in
    let is = c.is ∙ untaken client mode o i r payload c.format d.0 given g.1 d.1 event in
    let after = λ (q : FullPath). if can_read d.0.ops then value_with mode given q.part (value_at client.store q)
    else value_at client.store q in
    let found = λ (q : FullPath). ap (λ (t : Stored). value_at t q) is
    ∙ kept_at (can_read d.0.ops) mode given client.store p q once in
    record {
      definition = d.0;
      is_defined = d.1;
      format = c.format;
      served = c.served;
      given = given;
      gives = d.2;
      inside = λ q lies. found q ∙ chosen (lies_in path q) true (after q) (value_at client.store q) lies;
      outside = λ q away. found q ∙ chosen (lies_in path q) false (after q) (value_at client.store q) away;
    }

-- ---- one that the firmware takes

firmware_takes : (client : Client) (server : ℕ) (mode : Mode) (path : Path) (number : Option ℕ) (payload : List ℕ)
    (event : FirmwareEvent) → event_of path (new_values client path number payload) ≡ Some event
    → code_of (write_outcome client server mode path number payload).answer.ruling ≡ Changed
    → IsTaken client.store event (write_outcome client server mode path number payload).client.store
firmware_takes client server mode path number payload event is h =
    let values = new_values client path number payload in
    let none = unrefused client server mode path number payload h in
    let all = fails (refusals_of client server path (to_write mode number payload)) none in
    let after = some_if_denied (firmware_after client.store event) (taken_now is all.1.1.1.1.1.1.0) in
    let stored : (write_outcome client server mode path number payload).client.store ≡ after.0 =
    ap (λ (ruling : Option Ruling). (write_unless ruling client
    (after_write_with_event (mode_at mode path) client path values (event_of path values))).client.store) none
    ∙ ap (after_write_with_event (mode_at mode path) client path values) is
    ∙ ap (λ (t : Option Stored). unwrap_or t client.store) after.1 in
    subst (λ (t : Stored). IsTaken client.store event t) (sym stored) (is_taken client.store after.0 event after.1)
  where
    taken_now : event_of path (new_values client path number payload) ≡ Some event
        → is_refused_now client.store (event_of path (new_values client path number payload)) ≡ false
        → not (is_some (firmware_after client.store event)) ≡ false
    taken_now e k = sym (ap (is_refused_now client.store) e) ∙ k

-- ---- each operation

writes : (client : Client) (server : ℕ) (m : Message) (mode : Mode) (path : Path)
    → code_of (write_outcome client server mode path (content_format_of m.options) m.payload).answer.ruling ≡ Changed
    → WritesTo client m mode path
    (write_outcome client server mode path (content_format_of m.options) m.payload).client
writes client server m mode path h =
    let number = content_format_of m.options in
    let new = λ (p : Path). (write_outcome client server mode p number m.payload).client.store in
    let at_path = λ (p : Path) (e : path ≡ p).
    subst (λ (q : Path). code_of (write_outcome client server mode q number m.payload).answer.ruling ≡ Changed) e h in
    record {
      frame = is_stored client server mode path number m.payload h;
      instances = (wrote client server mode path number m.payload).instances;
      instance = λ o i e. subst (λ (p : Path). IsInstanceWritten client mode o i m.payload (new p)) (sym e)
          (instances_written client server mode o i number m.payload (at_path (Instance o i) e));
      resource = λ o i r e none. subst (λ (p : Path). IsResourceWritten client mode o i r number m.payload (new p))
          (sym e)
          (resource_stored client server mode o i r number m.payload
          (subst (λ (p : Path). event_of p (new_values client p number m.payload) ≡ None) e none)
          (at_path (Resource o i r) e));
      firmware = λ event is. firmware_takes client server mode path number m.payload event is h;
      part = λ o i r n e. subst (λ (p : Path). IsPartWritten client o i r n number m.payload (new p)) (sym e)
          (parts_written client server mode o i r n number m.payload (at_path (Part o i r n) e));
    }

annotates_only : (ruling : Option Ruling) (client : Client) (given : Option Numbers)
    → (annotate_unless ruling client given).client
    ≡ with_attributes client (annotate_unless ruling client given).client.attributes
annotates_only None client None = refl
annotates_only None client (Some m) = refl
annotates_only (Some ruling) client given = refl

adds_only : (ruling : Option Ruling) (client : Client) (server o : ℕ) (new : Option Newborn)
    → (create_unless ruling client server o new).client
    ≡ with_stored client (create_unless ruling client server o new).client.store
adds_only None client server o None = refl
adds_only None client server o (Some b) = refl
adds_only (Some ruling) client server o new = refl

executes_only : (ruling : Option Ruling) (client : Client) (path : Path)
    → (execute_unless ruling client path).client
    ≡ with_stored client (execute_unless ruling client path).client.store
executes_only None client path = refl
executes_only (Some ruling) client path = refl

removes_only : (ruling : Option Ruling) (client : Client) (path : Path)
    → (delete_unless ruling client path).client
    ≡ with_attributes (with_stored client (delete_unless ruling client path).client.store)
    (delete_unless ruling client path).client.attributes
removes_only None client path = refl
removes_only (Some ruling) client path = refl

-- a path that is no such resource of any instance
not_there : (object resource : ℕ) (path : Path) → ((i : ℕ) → path ≢ Resource object i resource)
    → is_resource object resource path ≡ false
not_there object resource (Object o) h = refl
not_there object resource (Instance o i) h = refl
not_there object resource (Resource o i r) h = by (o == object) (r == resource) refl refl
  where
    by : (a b : Bool) → (o == object) ≡ a → (r == resource) ≡ b → (a && b) ≡ false
    by true true e k = absurd (h i (λ j. Resource (eqb-true o object e j) i (eqb-true r resource k j)))
    by true false e k = refl
    by false b e k = refl
not_there object resource (Part o i r n) h = refl

executes : (client : Client) (server : ℕ) (path : Path) (number : Option ℕ) (payload : List ℕ)
    → code_of (execute_outcome client server path number payload).answer.ruling ≡ Changed
    → Executes client path (execute_outcome client server path number payload).client
executes client server path number payload h =
    let ruling = refusal_of client server path (to_execute number payload) in
    let new = λ (p : Path). (execute_outcome client server p number payload).client.store in
    let at_path = λ (p : Path) (e : path ≡ p).
    subst (λ (q : Path). code_of (execute_outcome client server q number payload).answer.ruling ≡ Changed) e h in
    record {
      frame = executes_only ruling client path;
      instances = (did ruling client path).instances;
      update = λ i e. subst (λ (p : Path). BeginsUpdate client.store (new p)) (sym e)
          (updates_begin client server i number payload (at_path (Resource 5 i 2) e));
      reset = λ i e. subst (λ (p : Path). HasNoError client.store (new p) i) (sym e)
          (errors_reset client server i number payload (at_path (Resource 3 i 12) e));
      others = λ no_update no_reset. executes_keep client server path number payload (not_there 5 2 path no_update)
          (not_there 3 12 path no_reset);
    }

adds : (client : Client) (server : ℕ) (m : Message) (path : Path) (number : Option ℕ)
    → code_of (create_outcome client server path number m.payload).answer.ruling ≡ Created
    → Adds client server m path (create_outcome client server path number m.payload)
adds client server m path number h =
    record {
      frame = adds_only (refusal_of client server path (to_create number m.payload)) client server (object_in path)
          (newborn client (object_in path) m.payload);
      added = λ o e. subst (λ (p : Path). IsCreated client server o m.payload
          (create_outcome client server p number m.payload)) (sym e)
          (creates_add client server o number m.payload
          (subst (λ (p : Path). code_of (create_outcome client server p number m.payload).answer.ruling ≡ Created) e
          h));
    }

removes : (client : Client) (server : ℕ) (path : Path)
    → code_of (delete_outcome client server path).answer.ruling ≡ Deleted
    → Removes client path (delete_outcome client server path).client
removes client server path h =
    record {
      frame = removes_only (refusal_of client server path to_delete) client path;
      taken = λ o i e. subst (λ (p : Path). TakesAway client (delete_outcome client server p).client (place_of o i))
          (sym e)
          (deletes_take client server o i
          (subst (λ (p : Path). code_of (delete_outcome client server p).answer.ruling ≡ Deleted) e h));
    }

changes_at : (client : Client) (server : ℕ) (m : Message) (path : Path) (operation : Operation)
    → code_of (outcome_at client server m (request_with m path operation)).answer.ruling
    ≡ code_of (done_ruling (purpose_of m operation))
    → Changes client server m path operation (outcome_at client server m (request_with m path operation))
changes_at client server m path Read h = refl
changes_at client server m path Discover h = refl
changes_at client server m path WriteReplace h = writes client server m Replace path h
changes_at client server m path WritePartial h = writes client server m Update path h
changes_at client server m path WriteAttributes h =
    record {
      frame = annotates_only (refusal_of client server path (to_write_attributes (queries_of m.options))) client
          (attributes_given client server path (queries_of m.options));
      set = attributes_set client server path (queries_of m.options) h;
    }
changes_at client server m path Create h = adds client server m path (content_format_of m.options) h
changes_at client server m path Execute h = executes client server path (content_format_of m.options) m.payload h
changes_at client server m path Delete h = removes client server path h

pub done_is_changed : DoneIsChanged
done_is_changed client server m path operation asks =
    subst (λ (o : Outcome). o.answer.ruling ≡ done_ruling (purpose_of m operation)
    → Changes client server m path operation o) (sym (comes_to client server m path operation asks))
    (λ done. changes_at client server m path operation (ap code_of done))
