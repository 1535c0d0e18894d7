-- What the records of a Read say: the values that it lists, with their resources and parts.
use Rattle.std.specs.Prelude.{◌≡◌, ℕ, ◌≤◌, List, [], ◌∷◌, ◌++◌, map, length, Option, None, Some, option_map}
use Rattle.std.specs.Prelude.{option_and_then}
use Rattle.lwm2m_values.specs.declared.value.Value.{Value}
use Rattle.lwm2m_values.specs.Reading.{value_of_bytes, nodes_of_bytes}
use Rattle.lwm2m_values.specs.Tlv.{shortest_tlv}
use Rattle.lwm2m_values.specs.Tree.{Trees, instance, multi, part, single, none, more}
use Rattle.lwm2m_values.specs.Value.{IsGood, kind_of}
use Rattle.object_defs.specs.Catalog.{resource_in}
use Rattle.object_defs.specs.declared.definition.ResourceDef.{ResourceDef}
use Rattle.object_defs.specs.declared.path.Path.{Path}
use Rattle.instance_store.specs.Stored.{Stored}
use Rattle.lwm2m_payloads.specs.Nodes.{Pairs, nodes_of, shown_in}

-- values, each with the number of its resource, and of its part where it is one
abbrev pub Listing : Type 0
Listing = List ((ℕ × Option ℕ) × Value)

-- the value of these bytes, by the kind of the resource of this number
abbrev pub value_in : List ResourceDef → ℕ → List ℕ → Option Value
value_in resources r bytes = option_and_then (λ d. value_of_bytes d.kind bytes) (resource_in resources r)

-- a value before others
abbrev pub with_shown : ℕ → Option ℕ → Option Value → Option Listing → Option Listing
with_shown r n None others = None
with_shown r n (Some v) others = option_map (λ o. ((r, n), v) ∷ o) others

abbrev pub joined_to : Option Listing → Option Listing → Option Listing
joined_to None others = None
joined_to (Some first) others = option_map (λ o. first ++ o) others

-- the values of the Resource Instances of a resource
abbrev pub parts_listed : List ResourceDef → ℕ → Trees → Option Listing
parts_listed resources r none = Some []
parts_listed resources r (more (part n bytes) parts) =
    with_shown r (Some n) (value_in resources r bytes) (parts_listed resources r parts)
parts_listed resources r (more (instance i inner) parts) = None
parts_listed resources r (more (multi q inner) parts) = None
parts_listed resources r (more (single q bytes) parts) = None

-- the values of records of Resources and Multiple Resources, in their order
abbrev pub values_listed : List ResourceDef → Trees → Option Listing
values_listed resources none = Some []
values_listed resources (more (single r bytes) nodes) =
    with_shown r None (value_in resources r bytes) (values_listed resources nodes)
values_listed resources (more (multi r inner) nodes) =
    joined_to (parts_listed resources r inner) (values_listed resources nodes)
values_listed resources (more (instance i inner) nodes) = None
values_listed resources (more (part n bytes) nodes) = None

-- valid values, each of the kind of its resource
abbrev pub AreOfTheirKinds : List ResourceDef → Pairs → Type 0
AreOfTheirKinds resources [] = Unit {0}
AreOfTheirKinds resources (e ∷ es) =
    IsGood e.1 × (option_map (λ d. d.kind) (resource_in resources e.0.resource) ≡ Some (kind_of e.1))
    × AreOfTheirKinds resources es

-- the TLV that a Read shows is read as the values that it lists, in their order
abbrev pub ShownIsRead : Type 0
ShownIsRead =
    (stored : Stored) (resources : List ResourceDef) (place : Path)
    → AreOfTheirKinds resources (shown_in stored resources place)
    → length (shortest_tlv (nodes_of (shown_in stored resources place))) ≤ 1024
    → option_and_then (values_listed resources)
    (nodes_of_bytes (shortest_tlv (nodes_of (shown_in stored resources place))))
    ≡ Some (map (λ e. ((e.0.resource, e.0.part), e.1)) (shown_in stored resources place))
