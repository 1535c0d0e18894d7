-- What a Write changes.
use Rattle.std.proofs.Common.{◌≡◌, ◌≢◌, ℕ, Bool, true, false, not, ◌==◌, List, Option, None, Some}
use Rattle.std.proofs.Common.{Result, Ok, Err, refl, sym, ap, ◌∙◌}
use Rattle.std.specs.Bool.{if◌then◌else◌}
use Rattle.std.specs.Option.{is_some, option_and_then}
use Rattle.std.proofs.lemmas.Bool.{ne_eqb}
use Rattle.lemmas.proofs.Options.{some_if_denied}
use Rattle.object_defs.specs.Catalog.{definition_of}
use Rattle.object_defs.specs.Operations.{can_read}
use Rattle.object_defs.specs.declared.definition.ResourceDef.{ResourceDef}
use Rattle.object_defs.specs.declared.path.FullPath.{FullPath}
use Rattle.object_defs.specs.declared.path.Path.{Path}
use Rattle.object_defs.specs.declared.path.Path.TheVariants.{Instance, Resource}
use Rattle.object_defs.specs.declared.path.ResourcePath.{ResourcePath}
use Rattle.instance_store.specs.Stored.{Stored, lies_in, resource_path, value_at}
use Rattle.lwm2m_payloads.specs.Changes.{instance_written, with_given}
use Rattle.lwm2m_payloads.specs.Given.{instance_given, resource_given}
use Rattle.lwm2m_payloads.specs.Written.{GivenOnce, value_behind, value_with}
use Rattle.lwm2m_payloads.specs.declared.fault.PayloadFault.{PayloadFault}
use Rattle.lwm2m_payloads.specs.declared.format.Format.{Format}
use Rattle.lwm2m_payloads.specs.declared.given.Assignment.{Assignment}
use Rattle.lwm2m_payloads.specs.declared.given.Given.{Given}
use Rattle.lwm2m_payloads.specs.declared.given.Mode.{Mode}
use Rattle.lwm2m_payloads.proofs.EachOnce.{instance_once, resource_once}
use Rattle.lwm2m_payloads.proofs.Written.{at_given, at_written}
use Rattle.device_requests.specs.declared.ruling.Ruling.{Ruling}
use Rattle.device_requests.specs.declared.answer.Code.TheVariants.{Changed}
use Rattle.device_requests.specs.Client.{Client, with_stored}
use Rattle.device_requests.specs.Laws.{is_refusal}
use Rattle.device_requests.specs.Outcomes.{write_outcome}
use Rattle.device_requests.specs.Read.{format_at}
use Rattle.device_requests.specs.Refusals.{refusal_of, refusals_of, to_write}
use Rattle.device_requests.specs.Ruling.{code_of}
use Rattle.device_requests.specs.Targets.{place_of, resource_place, resources_defined}
use Rattle.device_requests.specs.Write.{after_write_with_event, event_of, given_to_resource, mode_at, new_values}
use Rattle.device_requests.specs.Write.{values_given, write_unless}
use Rattle.laws_requests.specs.Writes.{InstancesAreWritten, ResourcesAreWritten}
use Rattle.laws_requests.proofs.Asking.{chosen, fails, passes}

-- no rule refuses a Write that is answered Changed
pub unrefused : (client : Client) (server : ℕ) (mode : Mode) (path : Path) (number : Option ℕ) (payload : List ℕ)
    → code_of (write_outcome client server mode path number payload).answer.ruling ≡ Changed
    → refusal_of client server path (to_write mode number payload) ≡ None
unrefused client server mode path number payload h =
    let event = event_of path (new_values client path number payload) in
    passes (refusals_of client server path (to_write mode number payload))
    (refl, (refl, (refl, (refl, (refl, (refl, (refl, (refl, tt))))))))
    (λ (ruling : Option Ruling). write_unless ruling client
    (after_write_with_event (mode_at mode path) client path (new_values client path number payload) event))
    (λ c. refl) (ap is_refusal h)

-- the store that a Write leaves, by the format
abbrev pub leaves : Client → Mode → Path → List ℕ → Option Format → Stored
leaves client mode path payload format =
    let values = option_and_then (values_given client.catalog path payload) format in
    after_write_with_event (mode_at mode path) client path values (event_of path values)

-- the format of a Write, and the store after it
pub record Comes (client : Client) (server : ℕ) (mode : Mode) (path : Path) (number : Option ℕ) (payload : List ℕ)
    : Type 0 where
  pub format : Format
  pub served : format_at client.catalog path number ≡ Some format
  pub good : not (is_some (values_given client.catalog path payload format)) ≡ false
  pub is : (write_outcome client server mode path number payload).client.store
      ≡ leaves client mode path payload (Some format)

pub comes : (client : Client) (server : ℕ) (mode : Mode) (path : Path) (number : Option ℕ) (payload : List ℕ)
    → code_of (write_outcome client server mode path number payload).answer.ruling ≡ Changed
    → Comes client server mode path number payload
comes client server mode path number payload h =
    let no_line = unrefused client server mode path number payload h in
    let all = fails (refusals_of client server path (to_write mode number payload)) no_line in
    let f = some_if_denied (format_at client.catalog path number) all.1.1.1.1.0 in
    record {
      format = f.0;
      served = f.1;
      good = sym (ap (λ (x : Option Format). not (is_some
          (option_and_then (values_given client.catalog path payload) x))) f.1) ∙ all.1.1.1.1.1.0;
      is = ap (λ (ruling : Option Ruling). (write_unless ruling client
          (leaves client mode path payload (format_at client.catalog path number))).client.store) no_line
          ∙ ap (leaves client mode path payload) f.1;
    }

-- it leaves all but the store
pub is_stored : (client : Client) (server : ℕ) (mode : Mode) (path : Path) (number : Option ℕ) (payload : List ℕ)
    → code_of (write_outcome client server mode path number payload).answer.ruling ≡ Changed
    → (write_outcome client server mode path number payload).client
    ≡ with_stored client (write_outcome client server mode path number payload).client.store
is_stored client server mode path number payload h =
    let left_store = leaves client mode path payload (format_at client.catalog path number) in
    let becomes : (write_outcome client server mode path number payload).client ≡ with_stored client left_store =
    ap (λ (ruling : Option Ruling). (write_unless ruling client left_store).client)
    (unrefused client server mode path number payload h) in
    becomes ∙ sym (ap (λ (c : Client). with_stored client c.store) becomes)

-- ---- an instance

instance_good : (client : Client) (o i : ℕ) (payload : List ℕ) (f : Format)
    (given : Result (List Assignment) PayloadFault)
    → instance_given (resources_defined client.catalog o) i payload ≡ given
    → not (is_some (values_given client.catalog (Instance o i) payload f)) ≡ false
    → (list : List Assignment) × (given ≡ Ok list)
instance_good client o i payload f (Err e) h good = let l : true ≡ false = rw h at good in cc
instance_good client o i payload f (Ok given) h good = (given, refl)

instance_leaves : (client : Client) (mode : Mode) (o i : ℕ) (payload : List ℕ) (f : Format) (given : List Assignment)
    → instance_given (resources_defined client.catalog o) i payload ≡ Ok given
    → leaves client mode (Instance o i) payload (Some f)
    ≡ instance_written mode (resources_defined client.catalog o) client.store (place_of o i) given
instance_leaves client mode o i payload f given h = rw h refl

pub instances_written : InstancesAreWritten
instances_written client server mode o i number payload h =
    let resources = resources_defined client.catalog o in
    let c = comes client server mode (Instance o i) number payload h in
    let g = instance_good client o i payload c.format (instance_given resources i payload) refl c.good in
    let given = g.0 in
    let is = c.is ∙ instance_leaves client mode o i payload c.format given g.1 in
    let once = instance_once resources i payload given g.1 in
    let after = λ (q : FullPath). value_behind mode resources given q (value_at client.store q) in
    let found = λ (q : FullPath). ap (λ (t : Stored). value_at t q) is
    ∙ at_written mode resources client.store (place_of o i) given q once in
    record {
      given = given;
      gives = g.1;
      inside = λ q lies. found q ∙ chosen (lies_in (Instance o i) q) true (after q) (value_at client.store q) lies;
      outside = λ q away. found q ∙ chosen (lies_in (Instance o i) q) false (after q) (value_at client.store q) away;
    }

-- ---- a resource

pub resource_good : (client : Client) (o i r : ℕ) (payload : List ℕ) (f : Format)
    (given : Result Given PayloadFault)
    → given_to_resource (definition_of client.catalog o r) f payload ≡ given
    → not (is_some (values_given client.catalog (Resource o i r) payload f)) ≡ false
    → (g : Given) × (given ≡ Ok g)
resource_good client o i r payload f (Err e) h good = let l : true ≡ false = rw h at good in cc
resource_good client o i r payload f (Ok g) h good = (g, refl)

pub is_defined : (d : Option ResourceDef) (f : Format) (payload : List ℕ) (g : Given)
    → given_to_resource d f payload ≡ Ok g
    → (x : ResourceDef) × (d ≡ Some x) × (resource_given x f payload ≡ Ok g)
is_defined None f payload g h = cc
is_defined (Some d) f payload g h = (d, refl, h)

resource_leaves : (client : Client) (mode : Mode) (o i r : ℕ) (payload : List ℕ) (f : Format) (d : ResourceDef)
    (given : Given) → o ≢ 5 → given_to_resource (definition_of client.catalog o r) f payload ≡ Ok given
    → definition_of client.catalog o r ≡ Some d
    → leaves client mode (Resource o i r) payload (Some f)
    ≡ (if can_read d.ops then with_given mode client.store (resource_place o i r) given else client.store)
resource_leaves client mode o i r payload f d given other h k =
    let five : (o == 5) ≡ false = ne_eqb o 5 other in rw (h, five, k) refl

alike : {X : Type 0} (b : Bool) (x : X) → (if b then x else x) ≡ x
alike true x = refl
alike false x = refl

pub kept_at : (b : Bool) (mode : Mode) (given : Given) (s : Stored) (p : ResourcePath) (q : FullPath) → GivenOnce given
    → value_at (if b then with_given mode s p given else s) q
    ≡ (if lies_in (resource_path p) q
    then (if b then value_with mode given q.part (value_at s q) else value_at s q) else value_at s q)
kept_at true mode given s p q once = at_given mode given s p q once
kept_at false mode given s p q once = sym (alike (lies_in (resource_path p) q) (value_at s q))

pub resources_written : ResourcesAreWritten
resources_written client server mode o i r number payload other h =
    let path = Resource o i r in
    let p = resource_place o i r in
    let c = comes client server mode path number payload h in
    let g = resource_good client o i r payload c.format
    (given_to_resource (definition_of client.catalog o r) c.format payload) refl c.good in
    let given = g.0 in
    let d = is_defined (definition_of client.catalog o r) c.format payload given g.1 in
    let once = resource_once d.0 c.format payload given d.2 in
    let is = c.is ∙ resource_leaves client mode o i r payload c.format d.0 given other g.1 d.1 in
    let after = λ (q : FullPath). if can_read d.0.ops then value_with mode given q.part (value_at client.store q)
    else value_at client.store q in
    let found = λ (q : FullPath). ap (λ (t : Stored). value_at t q) is
    ∙ kept_at (can_read d.0.ops) mode given client.store p q once in
    record {
      definition = d.0;
      is_defined = d.1;
      format = c.format;
      served = c.served;
      given = given;
      gives = d.2;
      inside = λ q lies. found q ∙ chosen (lies_in path q) true (after q) (value_at client.store q) lies;
      outside = λ q away. found q ∙ chosen (lies_in path q) false (after q) (value_at client.store q) away;
    }
