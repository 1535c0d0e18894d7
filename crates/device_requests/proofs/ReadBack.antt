-- A single resource that was written is read again.
use Rattle.std.proofs.Common.{◌≡◌, ℕ, Bool, true, false, not, ◌||◌, ◌==◌, List, [], ◌∷◌, Option, None}
use Rattle.std.proofs.Common.{Some, Result, Ok, Err, option_map, is_some, refl, sym, ap, subst, ◌∙◌}
use Rattle.std.specs.Bool.{if◌then◌else◌}
use Rattle.std.specs.Option.{option_and_then, unwrap_or}
use Rattle.std.specs.Result.{result_ok}
use Rattle.std.specs.Cmp.{eq_by_cmp_equiv}
use Rattle.std.specs.Ordering.{eq_by_cmp}
use Rattle.std.specs.FinMap as map
use Rattle.std.proofs.lemmas.Bool.{ne_eqb}
use Rattle.lemmas.proofs.Options.{some_if_denied}
use Rattle.lemmas.proofs.Tests.{second_if_denied}
use Rattle.device_firmware.specs.declared.event.FirmwareEvent.{FirmwareEvent}
use Rattle.lwm2m_values.specs.Reading.{value_of_text, value_of_bytes}
use Rattle.lwm2m_values.specs.Tree.{Tree, Trees, instance, multi, part, single, none, more}
use Rattle.lwm2m_values.specs.declared.value.Value.{Value}
use Rattle.object_defs.specs.Catalog.{definition_of}
use Rattle.object_defs.specs.Operations.{can_read}
use Rattle.object_defs.specs.Path.{path_cmp, single_of}
use Rattle.object_defs.specs.declared.path.FullPath.{FullPath}
use Rattle.object_defs.specs.declared.definition.ResourceDef.{ResourceDef}
use Rattle.object_defs.specs.declared.path.Path.TheVariants.{Resource}
use Rattle.object_defs.specs.declared.path.ResourcePath.{ResourcePath}
use Rattle.object_defs.proofs.PathOrder.{path_total}
use Rattle.instance_store.specs.Existence.{has_resource}
use Rattle.instance_store.specs.Stored.{Stored, value_at, has_instance, instance_of, with_value}
use Rattle.lwm2m_payloads.specs.declared.format.Format.{Format}
use Rattle.lwm2m_payloads.specs.declared.format.Format.TheVariants.{PlainText, OctetStream, Tlv}
use Rattle.lwm2m_payloads.specs.declared.given.Given.{Given}
use Rattle.lwm2m_payloads.specs.declared.given.Given.TheVariants.{Single}
use Rattle.lwm2m_payloads.specs.declared.given.Mode.TheVariants.{Replace}
use Rattle.lwm2m_payloads.specs.Formats.{one, many, extent_as, format_for}
use Rattle.lwm2m_payloads.specs.Given.{at_record, given_by, lone_record, number_in, records_in, resource_given}
use Rattle.lwm2m_payloads.specs.Given.{some_parts, value_in, whole_value}
use Rattle.lwm2m_payloads.specs.Results.{result_and_then, result_map}
use Rattle.lwm2m_payloads.specs.declared.fault.PayloadFault.{PayloadFault}
use Rattle.lwm2m_payloads.specs.declared.fault.RecordFault.{RecordFault}
use Rattle.lwm2m_payloads.specs.declared.fault.RecordFault.TheVariants.{Form, Number}
use Rattle.lwm2m_payloads.specs.Nodes.{value_payload}
use Rattle.device_requests.specs.declared.ruling.Ruling.TheVariants as rule
use Rattle.device_requests.specs.declared.answer.Code.TheVariants.{Changed}
use Rattle.device_requests.specs.declared.write.NewValues.{NewValues}
use Rattle.device_requests.specs.declared.write.NewValues.TheVariants.{One}
use Rattle.device_requests.specs.Access.{may_read, rights_on}
use Rattle.device_requests.specs.Answer.{Outcome, bare, refused_or}
use Rattle.object_defs.specs.Lines.{first_line}
use Rattle.device_requests.specs.Outcomes.{read_answer}
use Rattle.device_requests.specs.Read.{content_in, format_at, payload_in, read_payload}
use Rattle.device_requests.specs.Refusals.{can_be_written, is_oversized, is_refused_now, is_target, unless_taken}
use Rattle.device_requests.specs.Client.{Client, with_stored}
use Rattle.device_requests.specs.Targets.{is_readable, place_of, resource_place}
use Rattle.device_requests.specs.Ruling.{code_of}
use Rattle.device_requests.specs.Write.{after_write_with_event, event_of, exceeds, values_given, given_to_resource}
use Rattle.device_requests.specs.Write.{resource_written, new_values, write_unless, after_write}
use Rattle.device_requests.specs.Laws.{IsReadBack, WrittenIsRead, content_within}

-- one value is given
abbrev IsOne : Given → Type 0
IsOne g = (v : Value) × (g ≡ Single v)

one_value : {E : Type 0} (value : Result Value E) (g : Given) → result_map Single value ≡ Ok g → IsOne g
one_value (Err e) g h = cc
one_value (Ok v) g h = (v, cc)

record_gives_one : (d : ResourceDef) (node : Tree) (g : Given) → d.multiple ≡ false → given_by d node ≡ Ok g → IsOne g
record_gives_one d (instance i inner) g k h = cc
record_gives_one d (multi q inner) g k h =
    let e : (if d.multiple then some_parts d inner else Err Form) ≡ Ok g = h in
    let n : Err Form ≡ Ok g = rw k at e in
    cc
record_gives_one d (part n bytes) g k h = cc
record_gives_one d (single q bytes) g k h =
    let e : (if d.multiple then Err Form else result_map Single (value_in d.kind bytes)) ≡ Ok g = h in
    one_value (value_in d.kind bytes) g (rw k at e)

where_given : (b : Bool) (given : Result Given RecordFault) (place number : ℕ) (g : Given)
    → at_record place number (if b then given else Err Number) ≡ Ok g → given ≡ Ok g
where_given true (Ok x) place number g h = cc
where_given true (Err e) place number g h = cc
where_given false given place number g h = cc

records_give_one : (d : ResourceDef) (nodes : Trees) (g : Given) → d.multiple ≡ false → lone_record d nodes ≡ Ok g
    → IsOne g
records_give_one d none g k h = cc
records_give_one d (more node none) g k h =
    record_gives_one d node g k (where_given (number_in node == d.id) (given_by d node) 1 (number_in node) g h)
records_give_one d (more node (more next nodes)) g k h = cc

nodes_give_one : (d : ResourceDef) (nodes : Result Trees PayloadFault) (g : Given) → d.multiple ≡ false
    → result_and_then (lone_record d) nodes ≡ Ok g → IsOne g
nodes_give_one d (Err e) g k h = cc
nodes_give_one d (Ok nodes) g k h = records_give_one d nodes g k h

-- what a payload gives to a single resource is one value
gives_one : (d : ResourceDef) (format : Format) (payload : List ℕ) (g : Given) → d.multiple ≡ false
    → resource_given d format payload ≡ Ok g → IsOne g
gives_one d PlainText payload g k h = one_value (whole_value d.kind payload (value_of_text d.kind payload)) g h
gives_one d OctetStream payload g k h = one_value (whole_value d.kind payload (value_of_bytes d.kind payload)) g h
gives_one d Tlv payload g k h = nodes_give_one d (records_in payload) g k h

of_one : (given : Result Given PayloadFault) (values : NewValues) → result_ok (result_map One given) ≡ Some values
    → (g : Given) × (given ≡ Ok g) × (values ≡ One g)
of_one (Err e) values h = cc
of_one (Ok g) values h = (g, refl, cc)

-- no rule of a Write holds, and it is done
record Passes (a b format values : Bool) (done : Outcome) (stored : Stored) : Type 0 where
  object : a ≡ false
  target : b ≡ false
  served : format ≡ false
  good : values ≡ false
  store : done.client.store ≡ stored

passes : (a b w c f g x : Bool) (client : Client) (stored : Stored)
    → let done = write_unless (first_line ((a, rule.Security) ∷ (b, rule.Target) ∷ (w, rule.Right) ∷ (c, rule.Operation)
    ∷ (f, rule.ContentFormat) ∷ (g, rule.Payload) ∷ (x, rule.Limit) ∷ [])) client stored in
    code_of done.answer.ruling ≡ Changed → Passes a b f g done stored
passes true b w c f g x client stored h = cc
passes false true w c f g x client stored h = cc
passes false false true c f g x client stored h = cc
passes false false false true f g x client stored h = cc
passes false false false false true g x client stored h = cc
passes false false false false false true x client stored h = cc
passes false false false false false false true client stored h = cc
passes false false false false false false false client stored h =
    record { object = refl; target = refl; served = refl; good = refl; store = refl }

-- by the rule of a payload's length
by_length : (long : Bool) (format wanted : Format) (payload : List ℕ) → Some format ≡ Some wanted
    → refused_or (if long then Some rule.Limit else None) (content_in (Some format) payload)
    ≡ (if long then bare rule.Limit else content_in (Some wanted) payload)
by_length true format wanted payload l = refl
by_length false format wanted payload l = ap (λ (w : Option Format). content_in w payload) l

-- no rule of a Read holds but that of its payload's length
pub shown : (a b s c : Bool) (format : Option Format) (wanted : Format) (payload : List ℕ) → a ≡ false → b ≡ false
    → s ≡ false → c ≡ false → format ≡ Some wanted
    → refused_or (first_line ((a, rule.Security) ∷ (b, rule.Target) ∷ (s, rule.Right) ∷ (c, rule.Operation)
    ∷ (not (is_some format), rule.Accept) ∷ (is_oversized payload, rule.Limit) ∷ []))
    (content_in format payload) ≡ content_within wanted payload
shown true b s c format wanted payload h j m k l = cc
shown false true s c format wanted payload h j m k l = cc
shown false false true c format wanted payload h j m k l = cc
shown false false false true format wanted payload h j m k l = cc
shown false false false false None wanted payload h j m k l = cc
shown false false false false (Some format) wanted payload h j m k l =
    by_length (is_oversized payload) format wanted payload l

-- a single resource that can be read and has a value
record Holds (client : Client) (o i r : ℕ) (d : ResourceDef) (value : Value) : Type 0 where
  object : (o == 0) ≡ false
  place : has_instance client.store (place_of o i) ≡ true
  defined : definition_of client.catalog o r ≡ Some d
  alone : d.multiple ≡ false
  readable : can_read d.ops ≡ true
  value_is : value_at client.store (single_of (resource_place o i r)) ≡ Some value

pub format_same : (client : Client) (o i r : ℕ) (d : ResourceDef) (number : Option ℕ)
    → definition_of client.catalog o r ≡ Some d → d.multiple ≡ false
    → format_at client.catalog (Resource o i r) number ≡ format_for (one d.kind) number
format_same client o i r d number h k =
    ap (λ e. format_for (extent_as e) number) h ∙ ap (λ b. format_for (if b then many else one d.kind) number) k

or_true : (b : Bool) → not (b || true) ≡ false
or_true true = refl
or_true false = refl

resource_there : (stored : Stored) (p : ResourcePath) (d : ResourceDef) (value : Value)
    → has_instance stored (instance_of p) ≡ true
    → d.multiple ≡ false → value_at stored (single_of p) ≡ Some value → not (has_resource stored p (Some d)) ≡ false
resource_there stored p d value h k v = rw (h, k, v) (or_true (not (can_read d.ops)))

payload_shown : (client : Client) (server o i r : ℕ) (d : ResourceDef) (value : Value) (wanted : Format)
    → Holds client o i r d value
    → payload_in client server (Resource o i r) wanted ≡ value_payload wanted (single r) value
payload_shown client server o i r d value wanted h = rw (h.defined, h.alone, h.value_is) refl

same_path : (p : FullPath) → eq_by_cmp path_cmp p p ≡ true
same_path p = (eq_by_cmp_equiv path_total).refl p

pub value_there : (stored : Stored) (p : FullPath) (v : Value) → value_at (with_value stored p v) p ≡ Some v
value_there stored p v =
    map.get-insert path_total stored.values p v p ∙ ap (λ b. if b then Some v else value_at stored p) (same_path p)

-- what it has is read
read_shown : (client : Client) (server o i r : ℕ) (d : ResourceDef) (value : Value) (accept : Option ℕ)
    (wanted : Format) → Holds client o i r d value
    → may_read client server (Resource o i r) ≡ true → format_for (one d.kind) accept ≡ Some wanted
    → read_answer client server (Resource o i r) accept
    ≡ content_within wanted (value_payload wanted (single r) value)
read_shown client server o i r d value accept wanted h m k =
    let p = resource_place o i r in
    let format : format_at client.catalog (Resource o i r) accept ≡ Some wanted =
    format_same client o i r d accept h.defined h.alone ∙ k in
    let some_if_denied : not (has_resource client.store p (definition_of client.catalog o r)) ≡ false =
    rw h.defined (resource_there client.store p d value h.place h.alone h.value_is) in
    let readable : not (is_readable (definition_of client.catalog o r)) ≡ false = rw (h.defined, h.readable) refl in
    let payload : read_payload client server (Resource o i r) accept ≡ value_payload wanted (single r) value =
    ap (λ (f : Option Format). unwrap_or (option_map (payload_in client server (Resource o i r)) f) []) format
    ∙ payload_shown client server o i r d value wanted h in
    let allowed : not (may_read client server (Resource o i r)) ≡ false = ap not m in
    shown (o == 0) _ _ _ (format_at client.catalog (Resource o i r) accept) wanted
    (read_payload client server (Resource o i r) accept) h.object some_if_denied allowed readable format
    ∙ ap (content_within wanted) payload

-- what a Write that is answered by Changed leaves
behind : (client : Client) (o i r : ℕ) (d : ResourceDef) (number : Option ℕ) (payload : List ℕ) (stored : Stored)
    → definition_of client.catalog o r ≡ Some d → d.multiple ≡ false → can_read d.ops ≡ true → (o == 0) ≡ false
    → not (is_target client.catalog client.store (Resource o i r)) ≡ false
    → not (is_some (format_at client.catalog (Resource o i r) number)) ≡ false
    → not (is_some (new_values client (Resource o i r) number payload)) ≡ false
    → stored ≡ after_write Replace client.catalog client.store (Resource o i r)
    (new_values client (Resource o i r) number payload)
    → IsReadBack client o i r d number payload stored
behind client o i r d number payload stored defined alone readable object target served good is =
    let path = Resource o i r in
    let p = resource_place o i r in
    let format = some_if_denied (format_at client.catalog path number) served in
    let values = some_if_denied (new_values client path number payload) good in
    let given : result_ok (result_map One (resource_given d format.0 payload)) ≡ Some values.0 =
    sym (ap (λ f. option_and_then (values_given client.catalog path payload) f) format.1
    ∙ ap (λ e. result_ok (result_map One (given_to_resource e format.0 payload))) defined) ∙ values.1 in
    let g = of_one (resource_given d format.0 payload) values.0 given in
    let v = gives_one d format.0 payload g.0 alone g.1 in
    let stored_is : stored ≡ with_value client.store (single_of p) v.0 =
    is ∙ ap (after_write Replace client.catalog client.store path) (values.1 ∙ ap Some (g.2 ∙ ap One v.1))
    ∙ ap (λ e. resource_written Replace e client.store p (Single v.0)) defined
    ∙ ap (λ b. if b then with_value client.store (single_of p) v.0 else client.store) readable in
    record {
      format = format.0;
      served = sym (format_same client o i r d number defined alone) ∙ format.1;
      value = v.0;
      given = g.1 ∙ ap Ok v.1;
      read = λ server accept wanted m k. read_shown (with_stored client stored) server o i r d v.0 accept wanted
          (record {
            object = object;
            place = ap (λ s. has_instance s (place_of o i)) stored_is ∙ second_if_denied _ _ target;
            defined = defined;
            alone = alone;
            readable = readable;
            value_is = ap (λ s. value_at s (single_of p)) stored_is ∙ value_there client.store (single_of p) v.0;
          }) m k;
    }

-- a Write of another object is nothing to the firmware
no_event : (o i r : ℕ) (values : Option NewValues) → (o == 5) ≡ false → event_of (Resource o i r) values ≡ None
no_event o i r None h = refl
no_event o i r (Some values) h = rw h refl

-- a Write, with what it is to the firmware
abbrev turned : Client → ℕ → ℕ → ℕ → ℕ → Option ℕ → List ℕ → Option FirmwareEvent → Outcome
turned client server o i r number payload event =
    let path = Resource o i r in
    let values = new_values client path number payload in
    write_unless (first_line (
    (o == 0, rule.Security)
    ∷ (not (is_target client.catalog client.store path), rule.Target)
    ∷ (not (rights_on client server path).write, rule.Right)
    ∷ (not (can_be_written client.catalog path), rule.Operation)
    ∷ (not (is_some (format_at client.catalog path number)), rule.ContentFormat)
    ∷ (not (is_some values), rule.Payload)
    ∷ (is_refused_now client.store event, rule.State)
    ∷ (unless_taken event (exceeds Replace client.catalog client.store path values), rule.Limit)
    ∷ [])) client (after_write_with_event Replace client path values event)

pub read_back : WrittenIsRead
read_back client server o i r d number payload defined alone readable other h =
    let path = Resource o i r in
    let values = new_values client path number payload in
    subst (λ e. code_of (turned client server o i r number payload e).answer.ruling ≡ Changed
    → IsReadBack client o i r d number payload (turned client server o i r number payload e).client.store)
    (sym (no_event o i r values (ne_eqb o 5 other)))
    (λ done.
    let p = passes (o == 0) _ _ _ (not (is_some (format_at client.catalog path number))) (not (is_some values))
    (exceeds Replace client.catalog client.store path values)
    client (after_write Replace client.catalog client.store path values) done in
    behind client o i r d number payload _ defined alone readable p.object p.target p.served p.good p.store) h
