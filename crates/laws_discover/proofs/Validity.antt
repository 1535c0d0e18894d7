-- No request gives an attribute a number that it may not have, or a level at which it does not stand.
use Rattle.std.proofs.Common.{◌≡◌, ℕ, ℤ, Bool, true, false, cond, not, List, [], ◌∷◌, Option, None, Some, Result}
use Rattle.std.proofs.Common.{Ok, Err, refl, sym, ap, subst, ◌∙◌}
use Rattle.std.specs.Bool.{if◌then◌else◌}
use Rattle.std.specs.Cmp.{Equal-is}
use Rattle.std.specs.FinMap as map
use Rattle.std.specs.List.{AllByRecursion}
use Rattle.std.specs.Option.{option_and_then}
use Rattle.std.specs.Ordering.{eq_by_cmp}
use Rattle.coap_codec.specs.Message.{Message}
use Rattle.lwm2m_payloads.specs.declared.given.Mode.TheVariants.{Replace, Update}
use Rattle.object_defs.specs.declared.definition.ObjectDef.{ObjectDef}
use Rattle.object_defs.specs.declared.path.Path.{Path}
use Rattle.object_defs.specs.declared.path.Path.TheVariants.{Instance, Object, Part, Resource}
use Rattle.object_defs.specs.Numbers.{access_control_object}
use Rattle.object_defs.specs.Path.{object_in}
use Rattle.instance_store.specs.Stored.{Stored}
use Rattle.notifier.specs.declared.attribute.AttributeKey.{AttributeKey}
use Rattle.notifier.specs.declared.attribute.Change.{Change}
use Rattle.notifier.specs.declared.attribute.Level.{Level}
use Rattle.notifier.specs.declared.attribute.Name.{Name}
use Rattle.notifier.specs.declared.fault.QueryFault.{QueryFault}
use Rattle.notifier.specs.Attributes.{is_consistent, key_cmp, key_of, lies_under, Numbers, path_of, with_number}
use Rattle.notifier.specs.Attributes.{with_changes, without_under}
use Rattle.notifier.specs.Query.{changes_of, stands_at}
use Rattle.notifier.proofs.Keys.{key_exact, key_total}
use Rattle.device_requests.specs.declared.operation.Operation.{Operation}
use Rattle.device_requests.specs.declared.operation.Operation.TheVariants.{Create, Delete, Discover, Execute, Read}
use Rattle.device_requests.specs.declared.operation.Operation.TheVariants.{WriteAttributes, WritePartial, WriteReplace}
use Rattle.device_requests.specs.declared.request.Request.{Request}
use Rattle.device_requests.specs.Client.{Client}
use Rattle.device_requests.specs.declared.create.Newborn.{Newborn}
use Rattle.device_requests.specs.declared.ruling.Ruling.{Ruling}
use Rattle.device_requests.specs.declared.ruling.Ruling.TheVariants as rule
use Rattle.device_requests.specs.Create.{create_unless, newborn}
use Rattle.device_requests.specs.Delete.{after_delete, delete_unless, taken_away, without_controls}
use Rattle.device_requests.specs.Execute.{execute_unless}
use Rattle.device_requests.specs.Operation.{operation_of}
use Rattle.device_requests.specs.Options.{accept_of, content_format_of, has_query, has_unrecognized_critical}
use Rattle.device_requests.specs.Options.{path_of as path_in, queries_of, segments_of}
use Rattle.device_requests.specs.Refusals.{refusal_of, to_create, to_delete, to_execute, to_write, to_write_attributes}
use Rattle.device_requests.specs.Request.{outcome_at, outcome_for, request_by, request_on, request_with}
use Rattle.device_requests.specs.Write.{after_write_with_event, event_of, mode_at, new_values, write_unless}
use Rattle.device_requests.specs.WriteAttributes.{new_numbers, annotate_unless, attributes_given, level_at}
use Rattle.device_requests.specs.WriteAttributes.{changes_or_none}
use Rattle.laws_reading.specs.Queries.{AreSaid, SaysTarget}
use Rattle.laws_reading.proofs.Saying.{changes_are_said}
use Rattle.laws_discover.specs.Printed.{HasValidAttributes, IsAttributeNumber, NoneIsValid, RequestsKeepValid}
use Rattle.laws_discover.proofs.PrintedNumbers.{said_in_range}

-- what queries say

SetsValid : Level → Change → Type 0
SetsValid level c = (z : ℤ) → c.number ≡ Some z → IsAttributeNumber c.name z × (stands_at c.name level ≡ true)

target_in_range : (n : Name) (query : List ℕ) (o : Option ℤ) → SaysTarget n query o → (z : ℤ) → o ≡ Some z
    → IsAttributeNumber n z
target_in_range n query None h z e = cc e
target_in_range n query (Some y) h z e =
    let same : y ≡ z = cc e in subst (IsAttributeNumber n) same (said_in_range n h.0 y h.2)

changes_valid : (before : List Change) (level : Level) (qs : List (List ℕ)) (cs : List Change)
    → AreSaid before level qs cs → AllByRecursion (SetsValid level) cs
unfolding SetsValid
changes_valid before level [] cs h = subst (AllByRecursion (SetsValid level)) (sym h) tt
changes_valid before level (q ∷ qs) [] h = absurd h
changes_valid before level (q ∷ qs) (c ∷ cs) h = (
  (λ z e. (target_in_range c.name q c.number h.0.0 z e, h.0.1)),
  changes_valid _ level qs cs h.2,
)

-- attributes with changes

IsValidAt : List ObjectDef → AttributeKey → ℤ → Type 0
IsValidAt catalog k z = IsAttributeNumber k.name z × (stands_at k.name (level_at catalog (path_of k)) ≡ true)

AreValid : List ObjectDef → Numbers → Type 0
AreValid catalog m = (k : AttributeKey) (z : ℤ) → map.get m k ≡ Some z → IsValidAt catalog k z

with_valid : (catalog : List ObjectDef) (m : Numbers) (j : AttributeKey) (o : Option ℤ) → AreValid catalog m
    → ((z : ℤ) → o ≡ Some z → IsValidAt catalog j z) → AreValid catalog (with_number m j o)
unfolding AreValid
with_valid catalog m j None h new = λ k z e.
    by k z (eq_by_cmp key_cmp k j) (sym (map.get-remove key_total m j k) ∙ e)
  where
    by : (k : AttributeKey) (z : ℤ) (b : Bool) → cond b None (map.get m k) ≡ Some z → IsValidAt catalog k z
    by k z true e = cc e
    by k z false e = h k z e
with_valid catalog m j (Some y) h new = λ k z e.
    by k z (eq_by_cmp key_cmp k j) refl (sym (map.get-insert key_total m j y k) ∙ e)
  where
    by : (k : AttributeKey) (z : ℤ) (b : Bool) → eq_by_cmp key_cmp k j ≡ b
        → cond b (Some y) (map.get m k) ≡ Some z → IsValidAt catalog k z
    by k z true is e =
        let key : k ≡ j = key_exact k j ((Equal-is _).0 is) in
        subst (λ (i : AttributeKey). IsValidAt catalog i z) (sym key) (new z e)
    by k z false is e = h k z e

key_valid : (catalog : List ObjectDef) (server : ℕ) (path : Path) (n : Name) (z : ℤ) → IsAttributeNumber n z
    → stands_at n (level_at catalog path) ≡ true → IsValidAt catalog (key_of server path n) z
unfolding IsValidAt
key_valid catalog server (Object o) n z h stands = (h, stands)
key_valid catalog server (Instance o i) n z h stands = (h, stands)
key_valid catalog server (Resource o i r) n z h stands = (h, stands)
key_valid catalog server (Part o i r p) n z h stands = (h, stands)

written_valid : (catalog : List ObjectDef) (m : Numbers) (server : ℕ) (path : Path) (cs : List Change)
    → AreValid catalog m → AllByRecursion (SetsValid (level_at catalog path)) cs
    → AreValid catalog (with_changes m server path cs)
unfolding SetsValid
written_valid catalog m server path [] h all = h
written_valid catalog m server path (c ∷ cs) h all =
    written_valid catalog (with_number m (key_of server path c.name) c.number) server path cs
    (with_valid catalog m (key_of server path c.name) c.number h
    (λ z e. let v = all.0 z e in key_valid catalog server path c.name z v.0 v.1)) all.1

-- where attributes are given, they are valid
GivesValid : List ObjectDef → Option Numbers → Type 0
GivesValid catalog o = (m : Numbers) → o ≡ Some m → AreValid catalog m

given_valid : (catalog : List ObjectDef) (m : Numbers) (server : ℕ) (path : Path) (qs : List (List ℕ))
    (r : Result (List Change) QueryFault) → changes_of [] (level_at catalog path) qs ≡ r → AreValid catalog m
    → GivesValid catalog (option_and_then (new_numbers m server path) (changes_or_none r))
unfolding GivesValid
given_valid catalog m server path qs (Err f) is h = λ w e. cc e
given_valid catalog m server path qs (Ok cs) is h = λ w e.
    by w (is_consistent (with_changes m server path cs) server path) e
  where
    by : (w : Numbers) (b : Bool) → (if b then Some (with_changes m server path cs) else None) ≡ Some w
        → AreValid catalog w
    by w true e =
        let same : with_changes m server path cs ≡ w = cc e in
        let level = level_at catalog path in
        subst (AreValid catalog) same (written_valid catalog m server path cs h
        (changes_valid [] level qs cs ((changes_are_said level qs cs).0 is)))
    by w false e = cc e

-- attributes without those that go

without_valid : (catalog : List ObjectDef) (m : Numbers) (path : Path) → AreValid catalog m
    → AreValid catalog (without_under m path)
unfolding AreValid
without_valid catalog m path h = λ k z e.
    by k z (not (lies_under path k)) (sym (map.get-retain_keys m (λ i. not (lies_under path i)) k
    (λ x same. ap (λ i. not (lies_under path i)) (sym (key_exact k x same)))) ∙ e)
  where
    by : (k : AttributeKey) (z : ℤ) (b : Bool) → cond b (map.get m k) None ≡ Some z → IsValidAt catalog k z
    by k z true e = h k z e
    by k z false e = cc e

controls_valid : (catalog : List ObjectDef) (m : Numbers) (js : List ℕ) → AreValid catalog m
    → AreValid catalog (without_controls m js)
controls_valid catalog m [] h = h
controls_valid catalog m (j ∷ js) h =
    controls_valid catalog (without_under m (Instance access_control_object j)) js
    (without_valid catalog m (Instance access_control_object j) h)

-- by the operation

wrote : (ruling : Option Ruling) (client : Client) (s : Stored) → HasValidAttributes client
    → HasValidAttributes (write_unless ruling client s).client
wrote None client s h = h
wrote (Some ruling) client s h = h

made : (ruling : Option Ruling) (client : Client) (server o : ℕ) (new : Option Newborn) → HasValidAttributes client
    → HasValidAttributes (create_unless ruling client server o new).client
made None client server o None h = h
made None client server o (Some b) h = h
made (Some ruling) client server o new h = h

did : (ruling : Option Ruling) (client : Client) (path : Path) → HasValidAttributes client
    → HasValidAttributes (execute_unless ruling client path).client
did None client path h = h
did (Some ruling) client path h = h

took : (ruling : Option Ruling) (client : Client) (path : Path) → HasValidAttributes client
    → HasValidAttributes (delete_unless ruling client path).client
unfolding AreValid IsValidAt
took None client path h =
    controls_valid client.catalog (without_under client.attributes path)
    (taken_away client.store (after_delete client.store path)) (without_valid client.catalog client.attributes path h)
took (Some ruling) client path h = h

annotated : (ruling : Option Ruling) (client : Client) (given : Option Numbers) → HasValidAttributes client
    → GivesValid client.catalog given → HasValidAttributes (annotate_unless ruling client given).client
unfolding AreValid GivesValid IsValidAt
annotated None client None h gives = h
annotated None client (Some m) h gives = gives m refl
annotated (Some ruling) client given h gives = h

kept_at : (client : Client) (server : ℕ) (m : Message) (path : Path) (operation : Operation)
    → HasValidAttributes client
    → HasValidAttributes (outcome_at client server m (request_with m path operation)).client
unfolding AreValid IsValidAt
kept_at client server m path Read h = h
kept_at client server m path Discover h = h
kept_at client server m path WriteAttributes h =
    let given = attributes_given client server path (queries_of m.options) in
    annotated (refusal_of client server path (to_write_attributes (queries_of m.options))) client given h
    (given_valid client.catalog client.attributes server path (queries_of m.options) _ refl h)
kept_at client server m path WriteReplace h =
    let values = new_values client path (content_format_of m.options) m.payload in
    wrote (refusal_of client server path (to_write Replace (content_format_of m.options) m.payload)) client
    (after_write_with_event (mode_at Replace path) client path values (event_of path values)) h
kept_at client server m path WritePartial h =
    let values = new_values client path (content_format_of m.options) m.payload in
    wrote (refusal_of client server path (to_write Update (content_format_of m.options) m.payload)) client
    (after_write_with_event (mode_at Update path) client path values (event_of path values)) h
kept_at client server m path Create h =
    made (refusal_of client server path (to_create (content_format_of m.options) m.payload)) client server
    (object_in path) (newborn client (object_in path) m.payload) h
kept_at client server m path Execute h =
    did (refusal_of client server path (to_execute (content_format_of m.options) m.payload)) client path h
kept_at client server m path Delete h = took (refusal_of client server path to_delete) client path h

kept_by : (client : Client) (server : ℕ) (m : Message) (path : Path) (operation : Option Operation)
    → HasValidAttributes client
    → HasValidAttributes (outcome_for client server m (request_by m path operation)).client
kept_by client server m path None h = h
kept_by client server m path (Some operation) h = kept_at client server m path operation h

kept_on : (client : Client) (server : ℕ) (m : Message) (path : Option Path) → HasValidAttributes client
    → HasValidAttributes (outcome_for client server m (request_on m path)).client
kept_on client server m None h = h
kept_on client server m (Some path) h =
    kept_by client server m path (operation_of m.code (accept_of m.options) (has_query m.options) path) h

kept_if : (b : Bool) (client : Client) (server : ℕ) (m : Message) (request : Result Request Ruling)
    → HasValidAttributes client → HasValidAttributes (outcome_for client server m request).client
    → HasValidAttributes (outcome_for client server m (if b then Err rule.Options else request)).client
kept_if true client server m request h k = h
kept_if false client server m request h k = k

pub kept_valid : RequestsKeepValid
kept_valid client server m h =
    kept_if (has_unrecognized_critical m.options) client server m (request_on m (path_in (segments_of m.options))) h
    (kept_on client server m (path_in (segments_of m.options)) h)

pub none_valid : NoneIsValid
none_valid client none k z h =
    let e : None ≡ Some z = sym (map.get-empty key_cmp k) ∙ sym (ap (λ m. map.get m k) none) ∙ h in cc e
