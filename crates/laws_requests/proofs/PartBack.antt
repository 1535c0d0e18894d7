-- A part that was written is read again.
use Rattle.std.proofs.Common.{◌≡◌, ℕ, Bool, true, false, cond, not, ◌&&◌, ◌==◌, List, [], ◌∷◌, Option, None}
use Rattle.std.proofs.Common.{Some, Result, Ok, Err, refl, sym, ap, subst, ◌∙◌}
use Rattle.std.specs.Cmp.{eq_by_cmp_equiv}
use Rattle.std.specs.Option.{is_some, option_and_then, option_map, unwrap_or}
use Rattle.lwm2m_values.specs.Tree.{part}
use Rattle.lwm2m_values.specs.declared.value.Value.{Value}
use Rattle.object_defs.specs.Catalog.{definition_of}
use Rattle.object_defs.specs.Operations.{can_read}
use Rattle.object_defs.specs.Path.{part_of}
use Rattle.object_defs.specs.declared.definition.ResourceDef.{ResourceDef}
use Rattle.object_defs.specs.declared.path.Path.TheVariants.{Part}
use Rattle.object_defs.proofs.PathOrder.{path_total}
use Rattle.instance_store.specs.Stored.{Stored, has_instance, value_at, with_value}
use Rattle.instance_store.proofs.SetValues.{value_after}
use Rattle.lwm2m_payloads.specs.Given.{part_given}
use Rattle.lwm2m_payloads.specs.Nodes.{value_payload}
use Rattle.lwm2m_payloads.specs.declared.fault.PayloadFault.{PayloadFault}
use Rattle.lwm2m_payloads.specs.declared.format.Format.{Format}
use Rattle.lwm2m_payloads.specs.declared.given.Given.{Given}
use Rattle.lwm2m_payloads.specs.declared.given.Given.TheVariants.{Parts}
use Rattle.lwm2m_payloads.specs.declared.given.Mode.{Mode}
use Rattle.device_requests.specs.declared.ruling.Ruling.{Ruling}
use Rattle.device_requests.specs.Access.{may_read}
use Rattle.device_requests.specs.Client.{Client, with_stored}
use Rattle.device_requests.specs.Laws.{content_within}
use Rattle.device_requests.specs.Outcomes.{read_answer, write_outcome}
use Rattle.device_requests.specs.Read.{format_at, one_payload, payload_in, read_payload}
use Rattle.device_requests.specs.Refusals.{refusals_of, to_write}
use Rattle.device_requests.specs.Targets.{exists, is_multiple, is_readable, place_of, resource_place}
use Rattle.device_requests.specs.Write.{given_to_part, values_given}
use Rattle.device_requests.specs.Write.{write_unless}
use Rattle.device_requests.proofs.ReadBack.{shown}
use Rattle.laws_requests.specs.Readings.{IsPartReadBack, PartIsRead}
use Rattle.laws_requests.proofs.Asking.{fails}
use Rattle.laws_requests.proofs.Writing.{comes, leaves, unrefused}
use Rattle.laws_requests.proofs.PartGiving.{parts_given_by}

-- one value is given to the part
abbrev IsOnePart : ℕ → Given → Type 0
IsOnePart n g = (v : Value) × (g ≡ Parts ((n, v) ∷ []))

pub gives_part : (d : ResourceDef) (n : ℕ) (format : Format) (payload : List ℕ) (g : Given)
    → part_given d n format payload ≡ Ok g → IsOnePart n g
gives_part d n format payload g h = let v = (parts_given_by d n format payload g).0 h in (v.0, v.1)

pub both_are : (a b : Bool) → not (a && b) ≡ false → (a ≡ true) × (b ≡ true)
both_are true true h = (refl, refl)
both_are true false h = cc
both_are false b h = cc

-- a part that can be read and has a value
record HoldsPart (client : Client) (o i r n : ℕ) (d : ResourceDef) (value : Value) : Type 0 where
  object : (o == 0) ≡ false
  place : has_instance client.store (place_of o i) ≡ true
  defined : definition_of client.catalog o r ≡ Some d
  several : d.multiple ≡ true
  readable : can_read d.ops ≡ true
  value_is : value_at client.store (part_of (resource_place o i r) n) ≡ Some value

exists_by : (a b : Bool) (v : Option Value) (value : Value) → a ≡ true → b ≡ true → v ≡ Some value
    → not (a && (b && is_some v)) ≡ false
exists_by true true (Some w) value h k l = refl
exists_by true true None value h k l = cc
exists_by true false v value h k l = cc
exists_by false b v value h k l = cc

part_shown : (client : Client) (server o i r n : ℕ) (d : ResourceDef) (value : Value) (accept : Option ℕ)
    (wanted : Format) → HoldsPart client o i r n d value
    → may_read client server (Part o i r n) ≡ true → format_at client.catalog (Part o i r n) accept ≡ Some wanted
    → read_answer client server (Part o i r n) accept
    ≡ content_within wanted (value_payload wanted (part n) value)
part_shown client server o i r n d value accept wanted h m format =
    let path = Part o i r n in
    let multiple : is_multiple (definition_of client.catalog o r) ≡ true = ap is_multiple h.defined ∙ h.several in
    let readable : not (is_readable (definition_of client.catalog o r)) ≡ false =
    ap (λ (x : Option ResourceDef). not (is_readable x)) h.defined ∙ ap not h.readable in
    let payload : read_payload client server path accept ≡ value_payload wanted (part n) value =
    ap (λ (f : Option Format). unwrap_or (option_map (payload_in client server path) f) []) format
    ∙ ap (one_payload wanted (part n)) h.value_is in
    shown (o == 0) (not (exists client.catalog client.store path)) (not (may_read client server path))
    (not (is_readable (definition_of client.catalog o r))) (format_at client.catalog path accept) wanted
    (read_payload client server path accept) h.object
    (exists_by (has_instance client.store (place_of o i)) (is_multiple (definition_of client.catalog o r))
    (value_at client.store (part_of (resource_place o i r) n)) value h.place multiple h.value_is)
    (ap not m) readable format
    ∙ ap (content_within wanted) payload

value_there : (s : Stored) (o i r n : ℕ) (v : Value)
    → value_at (with_value s (part_of (resource_place o i r) n) v) (part_of (resource_place o i r) n) ≡ Some v
value_there s o i r n v =
    let p = part_of (resource_place o i r) n in
    value_after s p p v ∙ ap (λ (b : Bool). cond b (Some v) (value_at s p)) ((eq_by_cmp_equiv path_total).refl p)

pub part_good : (client : Client) (o i r n : ℕ) (payload : List ℕ) (f : Format)
    (given : Result Given PayloadFault)
    → given_to_part (definition_of client.catalog o r) n f payload ≡ given
    → not (is_some (values_given client.catalog (Part o i r n) payload f)) ≡ false
    → (g : Given) × (given ≡ Ok g)
part_good client o i r n payload f (Err e) h good = let l : true ≡ false = rw h at good in cc
part_good client o i r n payload f (Ok g) h good = (g, refl)

part_leaves : (client : Client) (mode : Mode) (o i r n : ℕ) (payload : List ℕ) (f : Format) (d : ResourceDef)
    (value : Value)
    → given_to_part (definition_of client.catalog o r) n f payload ≡ Ok (Parts ((n, value) ∷ []))
    → definition_of client.catalog o r ≡ Some d → can_read d.ops ≡ true
    → leaves client mode (Part o i r n) payload (Some f)
    ≡ with_value client.store (part_of (resource_place o i r) n) value
part_leaves client mode o i r n payload f d value h k l = rw (h, k, l) refl

pub part_read : PartIsRead
part_read client server mode o i r n d number payload defined readable h =
    let path = Part o i r n in
    let p = resource_place o i r in
    let no_line = unrefused client server mode path number payload h in
    let all = fails (refusals_of client server path (to_write mode number payload)) no_line in
    let c = comes client server mode path number payload h in
    let g = part_good client o i r n payload c.format
    (given_to_part (definition_of client.catalog o r) n c.format payload) refl c.good in
    let gives : part_given d n c.format payload ≡ Ok g.0 =
    sym (ap (λ (e : Option ResourceDef). given_to_part e n c.format payload) defined) ∙ g.1 in
    let v = gives_part d n c.format payload g.0 gives in
    let one = ap (λ (x : Given). Ok x) v.1 in
    let target = both_are (is_multiple (definition_of client.catalog o r)) (has_instance client.store (place_of o i))
    all.1.0 in
    let new : (write_outcome client server mode path number payload).client
    ≡ with_stored client (with_value client.store (part_of p n) v.0) =
    ap (λ (ruling : Option Ruling). (write_unless ruling client
    (leaves client mode path payload (format_at client.catalog path number))).client) no_line
    ∙ ap (λ (s : Stored). with_stored client s) (ap (leaves client mode path payload) c.served
    ∙ part_leaves client mode o i r n payload c.format d v.0 (g.1 ∙ one) defined readable) in
    subst (λ (x : Client). IsPartReadBack client o i r n d number payload x) (sym new)
    (record {
      format = c.format;
      served = c.served;
      value = v.0;
      given = gives ∙ one;
      read = λ reader accept wanted m k.
          part_shown (with_stored client (with_value client.store (part_of p n) v.0)) reader o i r n d v.0 accept wanted
          (record {
            object = all.0;
            place = target.1;
            defined = defined;
            several = sym (ap is_multiple defined) ∙ target.0;
            readable = readable;
            value_is = value_there client.store o i r n v.0;
          }) m k;
    })
