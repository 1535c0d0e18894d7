-- What a Read shows is read again.
use Rattle.std.proofs.Common.{◌≡◌, ℕ, ◌==◌, ◌<◌, ◌≤◌, Bool, true, false, List, [], ◌∷◌, map, length, Option, None, Some}
use Rattle.std.proofs.Common.{option_map, option_and_then, refl, ap, ◌∙◌, arith, if◌then◌else◌}
use Rattle.std.proofs.lemmas.Bool.Decides.{nat_tests}
use Rattle.lwm2m_values.specs.declared.value.Value.{Value}
use Rattle.lwm2m_values.specs.Reading.{value_of_bytes, nodes_of_bytes}
use Rattle.lwm2m_values.specs.Tlv.{shortest_tlv}
use Rattle.lwm2m_values.specs.Tree.{Trees, instance, multi, part, single, none, more}
use Rattle.lwm2m_values.specs.Value.{IsGood, kind_of, bytes_of}
use Rattle.lwm2m_values.proofs.BytesReading.{value_of_bytes_written}
use Rattle.lwm2m_values.proofs.TlvReading.{nodes_of_bytes_written}
use Rattle.object_defs.specs.Catalog.{resource_in}
use Rattle.object_defs.specs.declared.definition.ResourceDef.{ResourceDef}
use Rattle.object_defs.specs.declared.path.Path.{Path}
use Rattle.instance_store.specs.Stored.{Stored}
use Rattle.lwm2m_payloads.specs.Nodes.{Pairs, before_part, before_value, nodes_of, shown_in}
use Rattle.lwm2m_payloads.specs.Shown.{Listing, value_in, with_shown, joined_to, parts_listed, values_listed}
use Rattle.lwm2m_payloads.specs.Shown.{AreOfTheirKinds}
use Rattle.lwm2m_payloads.proofs.Nesting.{nested, are_short}

found_by : (d : Option ResourceDef) (v : Value) → IsGood v → option_map (λ d. d.kind) d ≡ Some (kind_of v)
    → option_and_then (λ d. value_of_bytes d.kind (bytes_of v)) d ≡ Some v
found_by None v good is = absurd cc
found_by (Some d) v good is =
    let same : d.kind ≡ kind_of v = cc in ap (λ k. value_of_bytes k (bytes_of v)) same ∙ value_of_bytes_written v good

shown_first : (r : ℕ) (n : Option ℕ) (v : Value) (o : Option Listing)
    → joined_to (with_shown r n (Some v) (Some [])) o ≡ with_shown r n (Some v) o
shown_first r n v None = refl
shown_first r n v (Some o) = refl

shown_in_front : (r : ℕ) (n : Option ℕ) (v : Value) (first o : Option Listing)
    → joined_to (with_shown r n (Some v) first) o ≡ with_shown r n (Some v) (joined_to first o)
shown_in_front r n v None o = refl
shown_in_front r n v (Some first) None = refl
shown_in_front r n v (Some first) (Some o) = refl

-- a part in a Multiple Resource of its own
alone : (resources : List ResourceDef) (r n : ℕ) (b : List ℕ) (v : Value) (nodes : Trees)
    → value_in resources r b ≡ Some v
    → values_listed resources (more (multi r (more (part n b) none)) nodes)
    ≡ with_shown r (Some n) (Some v) (values_listed resources nodes)
alone resources r n b v nodes is =
    ap (λ o. joined_to (with_shown r (Some n) o (Some [])) (values_listed resources nodes)) is
    ∙ shown_first r (Some n) v (values_listed resources nodes)

in_group : (resources : List ResourceDef) (r n : ℕ) (b : List ℕ) (v : Value) (q : ℕ) (parts nodes : Trees) (t : Bool)
    → (q == r) ≡ t → value_in resources r b ≡ Some v
    → values_listed resources (if t then more (multi r (more (part n b) parts)) nodes
    else more (multi r (more (part n b) none)) (more (multi q parts) nodes))
    ≡ with_shown r (Some n) (Some v) (joined_to (parts_listed resources q parts)
    (values_listed resources nodes))
in_group resources r n b v q parts nodes true e is =
    let same : r ≡ q = grind (arith, nat_tests) in
    ap (λ o. joined_to (with_shown r (Some n) o (parts_listed resources r parts)) (values_listed resources nodes)) is
    ∙ shown_in_front r (Some n) v (parts_listed resources r parts) (values_listed resources nodes)
    ∙ ap (λ k. with_shown r (Some n) (Some v)
    (joined_to (parts_listed resources k parts) (values_listed resources nodes))) same
in_group resources r n b v q parts nodes false e is = alone resources r n b v (more (multi q parts) nodes) is

part_listed : (resources : List ResourceDef) (r n : ℕ) (b : List ℕ) (v : Value) (nodes : Trees)
    → value_in resources r b ≡ Some v
    → values_listed resources (before_part r (part n b) nodes)
    ≡ with_shown r (Some n) (Some v) (values_listed resources nodes)
part_listed resources r n b v none is = alone resources r n b v none is
part_listed resources r n b v (more (instance i inner) nodes) is =
    alone resources r n b v (more (instance i inner) nodes) is
part_listed resources r n b v (more (part m c) nodes) is = alone resources r n b v (more (part m c) nodes) is
part_listed resources r n b v (more (single q c) nodes) is = alone resources r n b v (more (single q c) nodes) is
part_listed resources r n b v (more (multi q parts) nodes) is =
    in_group resources r n b v q parts nodes (q == r) refl is

value_listed : (resources : List ResourceDef) (r : ℕ) (n : Option ℕ) (v : Value) (nodes : Trees)
    → value_in resources r (bytes_of v) ≡ Some v
    → values_listed resources (before_value r n v nodes) ≡ with_shown r n (Some v) (values_listed resources nodes)
value_listed resources r None v nodes is = ap (λ o. with_shown r None o (values_listed resources nodes)) is
value_listed resources r (Some n) v nodes is = part_listed resources r n (bytes_of v) v nodes is

listed_again : (resources : List ResourceDef) (es : Pairs) → AreOfTheirKinds resources es
    → values_listed resources (nodes_of es) ≡ Some (map (λ e. ((e.0.resource, e.0.part), e.1)) es)
listed_again resources [] h = refl
listed_again resources (e ∷ es) h =
    value_listed resources e.0.resource e.0.part e.1 (nodes_of es)
    (found_by (resource_in resources e.0.resource) e.1 h.0 h.1)
    ∙ ap (with_shown e.0.resource e.0.part (Some e.1)) (listed_again resources es h.2)

pub shown_again : (stored : Stored) (resources : List ResourceDef) (place : Path)
    → AreOfTheirKinds resources (shown_in stored resources place)
    → length (shortest_tlv (nodes_of (shown_in stored resources place))) ≤ 1024
    → option_and_then (values_listed resources)
    (nodes_of_bytes (shortest_tlv (nodes_of (shown_in stored resources place))))
    ≡ Some (map (λ e. ((e.0.resource, e.0.part), e.1)) (shown_in stored resources place))
shown_again stored resources place kinds short =
    let es = shown_in stored resources place in
    let fits : length (shortest_tlv (nodes_of es)) < 16777216 = omega arith in
    ap (option_and_then (values_listed resources))
    (nodes_of_bytes_written (nodes_of es) (nested es, are_short (nodes_of es) fits))
    ∙ listed_again resources es kinds
