-- Records take the bytes that are counted for them before they are made, or more.
use Rattle.std.proofs.Common.{◌≡◌, ℕ, ◌+◌, ◌<◌, ◌≤◌, ◌==◌, nat_lt, Bool, true, false, ℤ, List, [], ◌∷◌, length, drop}
use Rattle.std.proofs.Common.{get_or, filter, Option, None, Some, Bor, refl, sym, ap, ◌∙◌, arith, cond, if◌then◌else◌}
use Rattle.std.proofs.lemmas.Bool.Decides.{nat_tests}
use Rattle.std.proofs.lemmas.List.{drop_more, length-append}
use Rattle.std.specs.Int.{w8, w16, w32, w64, to_be_bytes, cast_unsigned}
use Rattle.lwm2m_values.specs.declared.level.RecordType.{RecordType}
use Rattle.lwm2m_values.specs.declared.level.RecordType.TheVariants.{Instance, Multi, Part, Single}
use Rattle.lwm2m_values.specs.declared.value.Value.{Value}
use Rattle.lwm2m_values.specs.declared.value.Value.TheVariants.{Text, Whole, Flag, Opaque, Moment, Link}
use Rattle.lwm2m_values.specs.Value.{bytes_of, is_within, shortest_integer}
use Rattle.lwm2m_values.specs.Tree.{Tree, Trees, instance, multi, part, single, none, more}
use Rattle.lwm2m_values.specs.Tlv.{id_field, size_field, two_bytes, shortest_head, shortest_record, shortest_node}
use Rattle.lwm2m_values.specs.Tlv.{shortest_tlv}
use Rattle.object_defs.specs.declared.definition.ResourceDef.{ResourceDef}
use Rattle.object_defs.specs.declared.path.FullPath.{FullPath}
use Rattle.object_defs.specs.declared.path.Path.TheVariants as path
use Rattle.instance_store.specs.Listing.{shown_pairs}
use Rattle.instance_store.specs.Stored.{Stored}
use Rattle.lwm2m_payloads.specs.Least.{least_bytes, least_of, least_of_instances}
use Rattle.lwm2m_payloads.specs.Nodes.{Pairs, before_part, before_value, is_shown, nodes_of, object_nodes, shown_in}
use Rattle.lwm2m_payloads.specs.Nodes.{within_limit}

-- ---- records

id_width : (id : ℕ) → 1 ≤ length (id_field id)
id_width id =
    elim (nat_lt id 256) as (λ b. 1 ≤ length (if b then id ∷ [] else two_bytes id)) [
      | true ↦ omega arith
      | false ↦ omega arith
    ]

-- a head has two bytes at the least
with_head : (kind : RecordType) (id : ℕ) (content : List ℕ)
    → 2 + length content ≤ length (shortest_record kind id content)
with_head kind id content =
    omega (
      arith,
      length-append (shortest_head kind id (length content)) content,
      length-append (id_field id) (size_field (length content)),
      id_width id,
    )

abbrev mutual
  -- two bytes for each record, and those of its value
  least_node : Tree → ℕ
  least_node (instance i inner) = 2 + least_size inner
  least_node (multi r inner) = 2 + least_size inner
  least_node (part n bytes) = 2 + length bytes
  least_node (single r bytes) = 2 + length bytes

  least_size : Trees → ℕ
  least_size none = 0
  least_size (more t nodes) = least_node t + least_size nodes

mutual
  node_size : (t : Tree) → least_node t ≤ length (shortest_node t)
  node_size (instance i inner) = omega (arith, with_head Instance i (shortest_tlv inner), tlv_size inner)
  node_size (multi r inner) = omega (arith, with_head Multi r (shortest_tlv inner), tlv_size inner)
  node_size (part n bytes) = with_head Part n bytes
  node_size (single r bytes) = with_head Single r bytes

  tlv_size : (nodes : Trees) → least_size nodes ≤ length (shortest_tlv nodes)
  tlv_size none = omega arith
  tlv_size (more t nodes) =
      omega (arith, length-append (shortest_node t) (shortest_tlv nodes), node_size t, tlv_size nodes)

-- ---- values

some_of_four : (a b c : Bool) (w x y z : List ℕ) → 1 ≤ length w → 1 ≤ length x → 1 ≤ length y → 1 ≤ length z
    → 1 ≤ length (if a then w else (if b then x else (if c then y else z)))
some_of_four true b c w x y z h i j k = h
some_of_four false true c w x y z h i j k = i
some_of_four false false true w x y z h i j k = j
some_of_four false false false w x y z h i j k = k

integer_bytes : (z : ℤ) → 1 ≤ length (shortest_integer z)
integer_bytes z =
    some_of_four (is_within 128 z) (is_within 32768 z) (is_within 2147483648 z)
    (to_be_bytes w8 (cast_unsigned w8 z)) (to_be_bytes w16 (cast_unsigned w16 z))
    (to_be_bytes w32 (cast_unsigned w32 z)) (to_be_bytes w64 (cast_unsigned w64 z))
    (omega arith) (omega arith) (omega arith) (omega arith)

value_bytes : (v : Value) → least_bytes v ≤ length (bytes_of v)
value_bytes (Text t) = omega arith
value_bytes (Whole z) = integer_bytes z
value_bytes (Flag b) = omega arith
value_bytes (Opaque b) = omega arith
value_bytes (Moment z) = integer_bytes z
value_bytes (Link o i) = omega arith

-- a value's record adds to those after it what is counted for it, or more
part_more : (r : ℕ) (p : Tree) (nodes : Trees) → least_node p + least_size nodes ≤ least_size (before_part r p nodes)
part_more r p none = omega arith
part_more r p (more (instance i inner) nodes) = omega arith
part_more r p (more (part n bytes) nodes) = omega arith
part_more r p (more (single q bytes) nodes) = omega arith
part_more r p (more (multi q parts) nodes) =
    elim (q == r) as (λ t. least_node p + (2 + least_size parts + least_size nodes)
    ≤ least_size (if t then more (multi r (more p parts)) nodes
    else more (multi r (more p none)) (more (multi q parts) nodes))) [
      | true ↦ omega arith
      | false ↦ omega arith
    ]

value_more : (r : ℕ) (n : Option ℕ) (v : Value) (nodes : Trees)
    → 2 + length (bytes_of v) + least_size nodes ≤ least_size (before_value r n v nodes)
value_more r None v nodes = omega arith
value_more r (Some n) v nodes = part_more r (part n (bytes_of v)) nodes

values_size : (es : Pairs) → least_of es ≤ least_size (nodes_of es)
values_size [] = omega arith
values_size (e ∷ es) =
    omega (arith, value_bytes e.1, value_more e.0.resource e.0.part e.1 (nodes_of es), values_size es)

instances_size : (stored : Stored) (resources : List ResourceDef) (object : ℕ) (instances : List ℕ)
    → least_of_instances stored resources object instances
    ≤ least_size (object_nodes stored resources object instances)
instances_size stored resources object [] = omega arith
instances_size stored resources object (i ∷ instances) =
    omega (
      arith,
      values_size (shown_in stored resources (path.Instance object i)),
      instances_size stored resources object instances,
    )

-- ---- where more is counted than a payload has, there is none

past_limit : (payload : List ℕ) (b : Bool) → nat_lt 1024 (length payload) ≡ b → 1024 < length payload
    → None ≡ (if b then None else Some payload)
past_limit payload true e h = refl
past_limit payload false e h =
    let few : length payload ≤ 1024 = grind (arith, nat_tests) in absurd (omega arith)

records_past : (nodes : Trees) → 1024 < least_size nodes → None ≡ within_limit (shortest_tlv nodes)
records_past nodes h =
    past_limit (shortest_tlv nodes) (nat_lt 1024 (length (shortest_tlv nodes))) refl
    (omega (arith, tlv_size nodes))

pub values_past : (es : Pairs) → 1024 < least_of es → None ≡ within_limit (shortest_tlv (nodes_of es))
values_past es h = records_past (nodes_of es) (omega (arith, values_size es))

pub instances_past : (stored : Stored) (resources : List ResourceDef) (object : ℕ) (instances : List ℕ)
    → 1024 < least_of_instances stored resources object instances
    → None ≡ within_limit (shortest_tlv (object_nodes stored resources object instances))
instances_past stored resources object instances h =
    records_past (object_nodes stored resources object instances)
    (omega (arith, instances_size stored resources object instances))

-- ---- of values that are listed, those that a Read shows count

abbrev pub shown_of : List ResourceDef → List (FullPath × Bor Value) → Pairs
shown_of resources pairs = filter (λ e. is_shown resources e.0) (shown_pairs pairs)

abbrev pub before_if : Bool → FullPath × Value → Pairs → Pairs
before_if b e es = cond b (e ∷ es) es

-- the first of those that are left
pub shown_next : (resources : List ResourceDef) (pairs : List (FullPath × Bor Value)) (i : ℕ) (e : FullPath × Bor Value)
    (b : Bool) → i < length pairs → b ≡ is_shown resources (get_or pairs i e).0
    → least_of (shown_of resources (drop i pairs))
    ≡ least_of (before_if b ((get_or pairs i e).0, (get_or pairs i e).1.now) (shown_of resources (drop (i + 1) pairs)))
shown_next resources pairs i e b h s =
    ap (λ p. least_of (shown_of resources p)) (drop_more pairs i e h)
    ∙ ap (λ t. least_of (before_if t ((get_or pairs i e).0, (get_or pairs i e).1.now)
    (shown_of resources (drop (i + 1) pairs)))) (sym s)
