-- After which requests a device acts.
use Rattle.std.proofs.Common.{◌≡◌, ℕ, Bool, true, false, ◌==◌, ◌&&◌, Option, None, Some, Result, Err, refl, sym, ap}
use Rattle.std.proofs.Common.{List, subst, ◌∙◌}
use Rattle.std.specs.Bool.{if◌then◌else◌}
use Rattle.std.proofs.lemmas.Bool.{eqb-true}
use Rattle.std.proofs.lemmas.Option.{same_Some}
use Rattle.coap_codec.specs.Message.{Message}
use Rattle.instance_store.specs.Stored.{Stored}
use Rattle.lwm2m_payloads.specs.declared.format.Format.{Format}
use Rattle.lwm2m_payloads.specs.declared.given.Mode.TheVariants.{Replace, Update}
use Rattle.notifier.specs.Attributes.{Numbers}
use Rattle.object_defs.specs.Path.{object_in}
use Rattle.object_defs.specs.declared.path.Path.{Path}
use Rattle.object_defs.specs.declared.path.Path.TheVariants.{Object, Instance, Resource, Part}
use Rattle.device_requests.specs.declared.answer.Act.{Act}
use Rattle.device_requests.specs.declared.answer.Act.TheVariants.{Reboot, FactoryReset, RegUpdate, Disable, Missed}
use Rattle.device_requests.specs.declared.operation.Operation.{Operation}
use Rattle.device_requests.specs.declared.operation.Operation.TheVariants.{Read, Discover, WriteAttributes}
use Rattle.device_requests.specs.declared.operation.Operation.TheVariants.{WriteReplace, WritePartial, Create, Execute}
use Rattle.device_requests.specs.declared.operation.Operation.TheVariants.{Delete}
use Rattle.device_requests.specs.Answer.{Outcome, content, refused_or}
use Rattle.device_requests.specs.Client.{Client}
use Rattle.device_requests.specs.declared.create.Newborn.{Newborn}
use Rattle.device_requests.specs.declared.ruling.Ruling.{Ruling}
use Rattle.device_requests.specs.declared.ruling.Ruling.TheVariants as rule
use Rattle.device_requests.specs.declared.answer.Code.TheVariants.{Changed}
use Rattle.device_requests.specs.Create.{create_unless, newborn}
use Rattle.device_requests.specs.Delete.{delete_unless}
use Rattle.device_requests.specs.Discover.{discover_payload}
use Rattle.device_requests.specs.Execute.{act_of, execute_unless}
use Rattle.device_requests.specs.Operation.{link_format, operation_of}
use Rattle.device_requests.specs.Options.{accept_of, content_format_of, has_query, has_unrecognized_critical}
use Rattle.device_requests.specs.Options.{path_of, queries_of, segments_of}
use Rattle.device_requests.specs.Order.{Asks}
use Rattle.device_requests.specs.Outcomes.{write_outcome}
use Rattle.device_requests.specs.Read.{content_in, format_at, read_payload}
use Rattle.device_requests.specs.Refusals.{refusal_of, to_create, to_delete, to_discover, to_execute, to_read, to_write}
use Rattle.device_requests.specs.Refusals.{to_write_attributes}
use Rattle.device_requests.specs.Request.{outcome_at, outcome_for, outcome_of, request_by, request_on, request_with}
use Rattle.device_requests.specs.Ruling.{code_of}
use Rattle.device_requests.specs.Targets.{is_resource}
use Rattle.device_requests.specs.Write.{after_write_with_event, event_of, mode_at, new_values, write_unless}
use Rattle.device_requests.specs.WriteAttributes.{annotate_unless, attributes_given}
use Rattle.laws_requests.specs.Acts.{ActsAreAsked, IsActOf, IsAskedToAct}
use Rattle.laws_requests.proofs.Asking.{comes_to}
use Rattle.laws_requests.proofs.Executing.{unrefused}

-- ---- the act of a resource

-- a path that is such a resource is that of some instance
there : (object resource : ℕ) (path : Path) → is_resource object resource path ≡ true
    → (i : ℕ) × (path ≡ Resource object i resource)
there object resource (Object o) h = cc
there object resource (Instance o i) h = cc
there object resource (Resource o i r) h = by (o == object) (r == resource) refl refl h
  where
    by : (a b : Bool) → (o == object) ≡ a → (r == resource) ≡ b → (a && b) ≡ true
        → (j : ℕ) × (Resource o i r ≡ Resource object j resource)
    by true true e k both = (i, λ j. Resource (eqb-true o object e j) i (eqb-true r resource k j))
    by true false e k both = cc
    by false b e k both = cc
there object resource (Part o i r n) h = cc

named : (path : Path) (act : Act) → act_of path ≡ Some act → IsActOf path act
named path act h =
    by (is_resource 3 4 path) (is_resource 3 5 path) (is_resource 1 4 path) (is_resource 1 8 path) refl refl refl refl h
  where
    by : (a b c d : Bool) → is_resource 3 4 path ≡ a → is_resource 3 5 path ≡ b → is_resource 1 4 path ≡ c
        → is_resource 1 8 path ≡ d
        → (if a then Some Reboot else if b then Some FactoryReset else if c then Some Disable
        else if d then Some RegUpdate else None) ≡ Some act
        → IsActOf path act
    by true b c d e f g k is = subst (IsActOf path) (same_Some Reboot act is) (there 3 4 path e)
    by false true c d e f g k is = subst (IsActOf path) (same_Some FactoryReset act is) (there 3 5 path f)
    by false false true d e f g k is = subst (IsActOf path) (same_Some Disable act is) (there 1 4 path g)
    by false false false true e f g k is = subst (IsActOf path) (same_Some RegUpdate act is) (there 1 8 path k)
    by false false false false e f g k is = cc

acts : (path : Path) (act : Act) → IsActOf path act → act_of path ≡ Some act
acts path Reboot h = ap act_of h.1
acts path FactoryReset h = ap act_of h.1
acts path RegUpdate h = ap act_of h.1
acts path Disable h = ap act_of h.1
acts path Missed h = absurd h

-- ---- what each operation asks of the device

abbrev Silent : Outcome → Type 0
Silent outcome = outcome.answer.act ≡ None

reads : (ruling : Option Ruling) (format : Option Format) (payload : List ℕ)
    → (refused_or ruling (content_in format payload)).act ≡ None
reads None None payload = refl
reads None (Some format) payload = refl
reads (Some ruling) format payload = refl

lists : (ruling : Option Ruling) (payload : List ℕ) → (refused_or ruling (content link_format payload)).act ≡ None
lists None payload = refl
lists (Some ruling) payload = refl

writes : (ruling : Option Ruling) (client : Client) (stored : Stored) → Silent (write_unless ruling client stored)
writes None client stored = refl
writes (Some ruling) client stored = refl

annotates : (ruling : Option Ruling) (client : Client) (given : Option Numbers)
    → Silent (annotate_unless ruling client given)
annotates None client None = refl
annotates None client (Some m) = refl
annotates (Some ruling) client given = refl

creates : (ruling : Option Ruling) (client : Client) (server o : ℕ) (new : Option Newborn)
    → Silent (create_unless ruling client server o new)
creates None client server o None = refl
creates None client server o (Some b) = refl
creates (Some ruling) client server o new = refl

deletes : (ruling : Option Ruling) (client : Client) (path : Path) → Silent (delete_unless ruling client path)
deletes None client path = refl
deletes (Some ruling) client path = refl

executes : (ruling : Option Ruling) (client : Client) (path : Path) (act : Act)
    → (execute_unless ruling client path).answer.act ≡ Some act
    → (code_of (execute_unless ruling client path).answer.ruling ≡ Changed) × IsActOf path act
executes None client path act h = (refl, named path act h)
executes (Some ruling) client path act h = cc

abbrev Acted : Operation → Path → Outcome → Act → Type 0
Acted operation path outcome act = (operation ≡ Execute) × (code_of outcome.answer.ruling ≡ Changed) × IsActOf path act

silent : (operation : Operation) (path : Path) (outcome : Outcome) (act : Act) → Silent outcome
    → outcome.answer.act ≡ Some act → Acted operation path outcome act
silent operation path outcome act none h = let no : None ≡ Some act = sym none ∙ h in cc

acted_at : (client : Client) (server : ℕ) (m : Message) (path : Path) (operation : Operation) (act : Act)
    → (outcome_at client server m (request_with m path operation)).answer.act ≡ Some act
    → Acted operation path (outcome_at client server m (request_with m path operation)) act
acted_at client server m path Read act h =
    silent Read path (outcome_at client server m (request_with m path Read)) act
    (reads (refusal_of client server path (to_read (accept_of m.options)))
    (format_at client.catalog path (accept_of m.options)) (read_payload client server path (accept_of m.options))) h
acted_at client server m path Discover act h =
    silent Discover path (outcome_at client server m (request_with m path Discover)) act
    (lists (refusal_of client server path to_discover) (discover_payload client server path)) h
acted_at client server m path WriteReplace act h =
    let values = new_values client path (content_format_of m.options) m.payload in
    silent WriteReplace path (outcome_at client server m (request_with m path WriteReplace)) act
    (writes (refusal_of client server path (to_write Replace (content_format_of m.options) m.payload)) client
    (after_write_with_event (mode_at Replace path) client path values (event_of path values))) h
acted_at client server m path WritePartial act h =
    let values = new_values client path (content_format_of m.options) m.payload in
    silent WritePartial path (outcome_at client server m (request_with m path WritePartial)) act
    (writes (refusal_of client server path (to_write Update (content_format_of m.options) m.payload)) client
    (after_write_with_event (mode_at Update path) client path values (event_of path values))) h
acted_at client server m path WriteAttributes act h =
    silent WriteAttributes path (outcome_at client server m (request_with m path WriteAttributes)) act
    (annotates (refusal_of client server path (to_write_attributes (queries_of m.options))) client
    (attributes_given client server path (queries_of m.options))) h
acted_at client server m path Create act h =
    silent Create path (outcome_at client server m (request_with m path Create)) act
    (creates (refusal_of client server path (to_create (content_format_of m.options) m.payload)) client server
    (object_in path) (newborn client (object_in path) m.payload)) h
acted_at client server m path Execute act h =
    let done = executes (refusal_of client server path (to_execute (content_format_of m.options) m.payload)) client path
    act h in
    (refl, done.0, done.1)
acted_at client server m path Delete act h =
    silent Delete path (outcome_at client server m (request_with m path Delete)) act
    (deletes (refusal_of client server path to_delete) client path) h

-- ---- each request

acted_by : (client : Client) (server : ℕ) (m : Message) (act : Act) (path : Path) (operation : Option Operation)
    → has_unrecognized_critical m.options ≡ false → path_of (segments_of m.options) ≡ Some path
    → operation_of m.code (accept_of m.options) (has_query m.options) path ≡ operation
    → (outcome_for client server m (request_by m path operation)).answer.act ≡ Some act
    → IsAskedToAct client server m act
acted_by client server m act path None understood goes means h = cc
acted_by client server m act path (Some operation) understood goes means h =
    let asks : Asks m path operation = record { understood = understood; goes_to = goes; means = means } in
    let acted = acted_at client server m path operation act h in
    record {
      path = path;
      asks = subst (Asks m path) acted.0 asks;
      resource = acted.2;
      done = ap (λ (o : Outcome). (code_of o.answer.ruling)) (comes_to client server m path operation asks) ∙ acted.1;
    }

acted_on : (client : Client) (server : ℕ) (m : Message) (act : Act) (b : Bool) (path : Option Path)
    → has_unrecognized_critical m.options ≡ b → path_of (segments_of m.options) ≡ path
    → (outcome_for client server m (if b then Err rule.Options else request_on m path)).answer.act ≡ Some act
    → IsAskedToAct client server m act
acted_on client server m act true path critical goes h = cc
acted_on client server m act false None understood goes h = cc
acted_on client server m act false (Some path) understood goes h =
    acted_by client server m act path (operation_of m.code (accept_of m.options) (has_query m.options) path) understood
    goes refl h

does_act : (client : Client) (server : ℕ) (m : Message) (act : Act) → IsAskedToAct client server m act
    → (outcome_of client server m).answer.act ≡ Some act
does_act client server m act a =
    let is = comes_to client server m a.path Execute a.asks in
    let number = content_format_of m.options in
    let none = unrefused client server a.path number m.payload
    (sym (ap (λ (o : Outcome). (code_of o.answer.ruling)) is) ∙ a.done) in
    ap (λ (o : Outcome). o.answer.act) is
    ∙ ap (λ (ruling : Option Ruling). (execute_unless ruling client a.path).answer.act) none
    ∙ acts a.path act a.resource

pub acts_asked : ActsAreAsked
acts_asked client server m act = (
  acted_on client server m act (has_unrecognized_critical m.options) (path_of (segments_of m.options)) refl refl,
  does_act client server m act,
)
