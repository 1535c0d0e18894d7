-- The payload of a Read (OMA LwM2M 1.1 Core, data formats): values as TLV records, and one value in each format.
use Rattle.std.specs.Prelude.{ℕ, ◌==◌, nat_lt, Bool, false, not, ◌&&◌, List, [], ◌∷◌, map, length, Option, None, Some}
use Rattle.std.specs.Prelude.{is_some, if◌then◌else◌}
use Rattle.std.specs.List.{filter}
use Rattle.lwm2m_values.specs.Value.{text_of, bytes_of}
use Rattle.lwm2m_values.specs.Tlv.{shortest_tlv}
use Rattle.lwm2m_values.specs.Tree.{Tree, Trees, instance, multi, part, single, none, more, trees_of_list}
use Rattle.lwm2m_values.specs.declared.value.Value.{Value}
use Rattle.object_defs.specs.Catalog.{resource_in}
use Rattle.object_defs.specs.Operations.{can_read}
use Rattle.object_defs.specs.declared.definition.ResourceDef.{ResourceDef}
use Rattle.object_defs.specs.declared.path.FullPath.{FullPath}
use Rattle.object_defs.specs.declared.path.Path.{Path}
use Rattle.object_defs.specs.declared.path.Path.TheVariants as path
use Rattle.instance_store.specs.Stored.{Stored, values_in}
use Rattle.lwm2m_payloads.specs.declared.format.Format.{Format}
use Rattle.lwm2m_payloads.specs.declared.format.Format.TheVariants.{PlainText, OctetStream, Tlv}

-- values with their full paths, in the order of these
abbrev pub Pairs : Type 0
Pairs = List (FullPath × Value)

abbrev pub is_shown_as : Option ℕ → Option ResourceDef → Bool
is_shown_as number None = false
is_shown_as number (Some d) = can_read d.ops && (if d.multiple then is_some number else not (is_some number))

-- a Read shows the values of readable resources: a single one's value, a multiple one's parts
abbrev pub is_shown : List ResourceDef → FullPath → Bool
is_shown resources p = is_shown_as p.part (resource_in resources p.resource)

-- what a Read shows at or below a path
abbrev pub shown_in : Stored → List ResourceDef → Path → Pairs
shown_in stored resources place = filter (λ e. is_shown resources e.0) (values_in stored place)

-- a part before the records after it: in the Multiple Resource of its resource, where this comes next, else in one of
-- its own
abbrev pub before_part : ℕ → Tree → Trees → Trees
before_part r p (more (multi q parts) nodes) =
    if q == r then more (multi r (more p parts)) nodes else more (multi r (more p none)) (more (multi q parts) nodes)
before_part r p nodes = more (multi r (more p none)) nodes

abbrev pub before_value : ℕ → Option ℕ → Value → Trees → Trees
before_value r None value nodes = more (single r (bytes_of value)) nodes
before_value r (Some n) value nodes = before_part r (part n (bytes_of value)) nodes

-- the records of an instance's values: a Resource for a single value, a Multiple Resource for the parts of a resource
abbrev pub nodes_of : Pairs → Trees
nodes_of [] = none
nodes_of (e ∷ es) = before_value e.0.resource e.0.part e.1 (nodes_of es)

-- the Object Instance of this number, with the values that a Read shows
abbrev pub instance_node : Stored → List ResourceDef → ℕ → ℕ → Tree
instance_node stored resources object i = instance i (nodes_of (shown_in stored resources (path.Instance object i)))

-- the records of an object: of these instances of it
abbrev pub object_nodes : Stored → List ResourceDef → ℕ → List ℕ → Trees
object_nodes stored resources object instances = trees_of_list (map (instance_node stored resources object) instances)

-- one value in a format; in TLV as this record of its bytes
abbrev pub value_payload : Format → (List ℕ → Tree) → Value → List ℕ
value_payload PlainText record_of value = text_of value
value_payload OctetStream record_of value = bytes_of value
value_payload Tlv record_of value = shortest_tlv (more (record_of (bytes_of value)) none)

-- a payload of 1,024 bytes at most (this profile)
abbrev pub within_limit : List ℕ → Option (List ℕ)
within_limit payload = if nat_lt 1024 (length payload) then None else Some payload
