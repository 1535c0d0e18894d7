-- What an instance was given is read again.
use Rattle.std.proofs.Common.{◌≡◌, ◌≢◌, inl, inr, ℕ, true, false, not, ◌==◌, List, [], Option}
use Rattle.std.proofs.Common.{None, Some, refl, sym, ap, subst, ◌∙◌}
use Rattle.std.specs.FinMap as finite
use Rattle.std.specs.Option.{is_some, option_map, unwrap_or}
use Rattle.std.proofs.lemmas.Bool.{ne_eqb, eqb-false}
use Rattle.lemmas.proofs.Tests.{second_if_denied}
use Rattle.lwm2m_values.specs.Tree.{single}
use Rattle.lwm2m_values.specs.declared.value.Value.{Value}
use Rattle.object_defs.specs.Catalog.{definition_of, object_of}
use Rattle.object_defs.specs.Operations.{can_read}
use Rattle.object_defs.specs.Path.{part_of, single_of}
use Rattle.object_defs.specs.declared.definition.ResourceDef.{ResourceDef}
use Rattle.object_defs.specs.declared.path.Path.TheVariants.{Instance, Resource}
use Rattle.instance_store.specs.Existence.{has_resource}
use Rattle.instance_store.specs.Stored.{Stored, has_instance, value_at}
use Rattle.lwm2m_payloads.specs.Formats.{format_for, one}
use Rattle.lwm2m_payloads.specs.Nodes.{value_payload}
use Rattle.lwm2m_payloads.specs.PartList.{PartList}
use Rattle.lwm2m_payloads.specs.Written.{PartsOnce, part_value}
use Rattle.lwm2m_payloads.specs.declared.format.Format.{Format}
use Rattle.lwm2m_payloads.specs.declared.given.Given.TheVariants.{Parts}
use Rattle.lwm2m_payloads.specs.declared.given.Mode.{Mode}
use Rattle.lwm2m_payloads.specs.declared.given.Mode.TheVariants.{Replace, Update}
use Rattle.lwm2m_payloads.proofs.EachOnce.{instance_once}
use Rattle.device_requests.specs.Access.{may_read}
use Rattle.device_requests.specs.Client.{Client, with_stored}
use Rattle.device_requests.specs.Laws.{IsAmong, content_within}
use Rattle.device_requests.specs.Outcomes.{read_answer, write_outcome}
use Rattle.device_requests.specs.Read.{format_at, payload_in, read_payload}
use Rattle.device_requests.specs.Refusals.{refusals_of, to_write}
use Rattle.device_requests.specs.Targets.{exists, is_readable, place_of, resource_place, resources_defined}
use Rattle.device_requests.proofs.ReadBack.{shown, format_same}
use Rattle.laws_requests.specs.Instances.{HoldsGiven, InstancesAreReadBack, IsInstanceReadBack, left_by}
use Rattle.laws_requests.specs.Multiples.{HasPart, IsPartThen}
use Rattle.laws_requests.proofs.Asking.{fails}
use Rattle.laws_requests.proofs.Changing.{wrote}
use Rattle.laws_requests.proofs.Holding.{among_value, multiple_read, value_among}
use Rattle.laws_requests.proofs.InstanceBack.{instances_hold, is_once}
use Rattle.laws_requests.proofs.Writing.{is_stored, unrefused}

-- ---- a single resource

-- a single resource that can be read and has a value
record HoldsValue (client : Client) (o i r : ℕ) (d : ResourceDef) (v : Value) : Type 0 where
  object : (o == 0) ≡ false
  place : has_instance client.store (place_of o i) ≡ true
  defined_as : definition_of client.catalog o r ≡ Some d
  alone : d.multiple ≡ false
  readable : can_read d.ops ≡ true
  value_is : value_at client.store (single_of (resource_place o i r)) ≡ Some v

value_there : (client : Client) (o i r : ℕ) (d : ResourceDef) (v : Value) → HoldsValue client o i r d v
    → exists client.catalog client.store (Resource o i r) ≡ true
value_there client o i r d v h =
    let held : has_resource client.store (resource_place o i r) (Some d) ≡ true =
    rw (h.place, h.readable, h.alone, h.value_is) refl in
    ap (has_resource client.store (resource_place o i r)) h.defined_as ∙ held

value_shown : (client : Client) (server o i r : ℕ) (d : ResourceDef) (v : Value) (wanted : Format)
    → HoldsValue client o i r d v
    → payload_in client server (Resource o i r) wanted ≡ value_payload wanted (single r) v
value_shown client server o i r d v wanted h = rw (h.defined_as, h.alone, h.value_is) refl

value_read : (client : Client) (server o i r : ℕ) (d : ResourceDef) (v : Value) (accept : Option ℕ) (wanted : Format)
    → HoldsValue client o i r d v → may_read client server (Resource o i r) ≡ true
    → format_for (one d.kind) accept ≡ Some wanted
    → read_answer client server (Resource o i r) accept
    ≡ content_within wanted (value_payload wanted (single r) v)
value_read client server o i r d v accept wanted h may k =
    let path = Resource o i r in
    let format = format_same client o i r d accept h.defined_as h.alone ∙ k in
    let payload : read_payload client server path accept ≡ value_payload wanted (single r) v =
    ap (λ (f : Option Format). unwrap_or (option_map (payload_in client server path) f) []) format
    ∙ value_shown client server o i r d v wanted h in
    let readable : not (is_readable (definition_of client.catalog o r)) ≡ false =
    ap (λ (x : Option ResourceDef). not (is_readable x)) h.defined_as ∙ ap not h.readable in
    shown (o == 0) (not (exists client.catalog client.store path)) (not (may_read client server path))
    (not (is_readable (definition_of client.catalog o r))) (format_at client.catalog path accept) wanted
    (read_payload client server path accept) h.object (ap not (value_there client o i r d v h)) (ap not may) readable
    format
    ∙ ap (content_within wanted) payload

-- ---- the parts of a multiple resource

same_value : (v w : Value) → Some v ≡ Some w → w ≡ v
same_value v w h = cc

from_left : (mode : Mode) (parts : PartList) (n : ℕ) (before : Option Value) (v : Value) → ¬ (HasPart parts n)
    → left_by mode before ≡ Some v → IsPartThen mode parts n before v
from_left Replace parts n before v never h = cc
from_left Update parts n before v never h = inr (refl, never, h)

no_part_of : (parts : PartList) (n : ℕ) → PartsOnce parts → part_value parts (Some n) ≡ None → ¬ (HasPart parts n)
no_part_of parts n once h part =
    let l : Some part.0 ≡ None = sym (among_value parts n part.0 once part.1) ∙ h in cc

-- what a part holds after a change, and what is given to it
pub record IsChanged (mode : Mode) (parts : PartList) (n : ℕ) (before after : Option Value) : Type 0 where
  pub given : (v : Value) → IsAmong (n, v) parts → after ≡ Some v
  pub other : ¬ (HasPart parts n) → after ≡ left_by mode before

pub then_is : (mode : Mode) (parts : PartList) (n : ℕ) (before after : Option Value) (v : Value) → PartsOnce parts
    → IsChanged mode parts n before after → after ≡ Some v → IsPartThen mode parts n before v
then_is mode parts n before after v once h k =
    elim (part_value parts (Some n)) as (λ w. part_value parts (Some n) ≡ w → IsPartThen mode parts n before v) [
      | None ↦ λ is.
          let never = no_part_of parts n once is in from_left mode parts n before v never (sym (h.other never) ∙ k)
      | Some w ↦ λ is.
          let among = value_among parts n w is in
          let same : w ≡ v = same_value v w (sym k ∙ h.given w among) in
          inl (subst (λ (x : Value). IsAmong (n, x) parts) same among)
    ] refl

pub is_then : (mode : Mode) (parts : PartList) (n : ℕ) (before after : Option Value) (v : Value)
    → IsChanged mode parts n before after → IsPartThen mode parts n before v → after ≡ Some v
is_then mode parts n before after v h (inl among) = h.given v among
is_then mode parts n before after v h (inr (updated, never, was)) =
    h.other never ∙ ap (λ (m : Mode). left_by m before) updated ∙ was

-- ---- an instance

read_back : (client : Client) (mode : Mode) (o i : ℕ) (payload : List ℕ) (stored : Stored) → o ≢ 0
    → has_instance stored (place_of o i) ≡ true → HoldsGiven client mode o i payload stored
    → IsInstanceReadBack client mode o i payload (with_stored client stored)
read_back client mode o i payload stored other place h =
    record {
      given = h.given;
      gives = h.gives;
      value = λ r d v defined_as alone readable is server accept wanted may k.
          value_read (with_stored client stored) server o i r d v accept wanted
          (record {
            object = ne_eqb o 0 other;
            place = place;
            defined_as = defined_as;
            alone = alone;
            readable = readable;
            value_is = h.value r v is (ap is_readable defined_as ∙ readable);
          }) may k;
      parts = λ r d parts defined_as several readable is.
          let p = resource_place o i r in
          let back = multiple_read (with_stored client stored) o i r d other defined_as several readable place in
          let once : PartsOnce parts = is_once h.given r (Parts parts)
          (instance_once (resources_defined client.catalog o) i payload h.given h.gives) is in
          let can : is_readable (definition_of client.catalog o r) ≡ true = ap is_readable defined_as ∙ readable in
          let changed : (n : ℕ)
          → IsChanged mode parts n (value_at client.store (part_of p n)) (value_at stored (part_of p n)) =
          λ n. record {
            given = λ v among. h.part r parts n v is can among;
            other = λ never. h.other_part r parts n is can never;
          } in (
            back.0,
            back.1,
            λ n v.
                let before = value_at client.store (part_of p n) in
                let after = value_at stored (part_of p n) in (
                  λ k. then_is mode parts n before after v once (changed n) ((back.1.held n v).1 k),
                  λ k. (back.1.held n v).0 (is_then mode parts n before after v (changed n) k),
                ),
          );
    }

pub instances_read : InstancesAreReadBack
instances_read client server mode o i number payload h =
    let path = Instance o i in
    let new = (write_outcome client server mode path number payload).client in
    let no_line = unrefused client server mode path number payload h in
    let all = fails (refusals_of client server path (to_write mode number payload)) no_line in
    let place : has_instance new.store (place_of o i) ≡ true =
    ap (λ m. finite.contains_key m (place_of o i)) (wrote client server mode path number payload).instances
    ∙ second_if_denied (is_some (object_of client.catalog o)) (has_instance client.store (place_of o i)) all.1.0 in
    subst (IsInstanceReadBack client mode o i payload) (sym (is_stored client server mode path number payload h))
    (read_back client mode o i payload new.store (eqb-false o 0 all.0) place
    (instances_hold client server mode o i number payload h))
