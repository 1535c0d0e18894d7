-- Which records may be written: those that a Read shows, where they are short enough.
use Rattle.std.proofs.Common.{◌≡◌, ℕ, ◌<◌, nat_lt, length, List, [], ◌∷◌, ◌++◌, Option, None, Some, refl, ap, arith}
use Rattle.std.proofs.Common.{Bool, true, false, ◌==◌, if◌then◌else◌}
use Rattle.std.proofs.lemmas.Bool.Decides.{nat_tests}
use Rattle.std.proofs.Common.{length-append}
use Rattle.lwm2m_values.specs.declared.level.Around.{Around}
use Rattle.lwm2m_values.specs.declared.level.Around.TheVariants.{Top, InInstance}
use Rattle.lwm2m_values.specs.declared.level.RecordType.TheVariants.{Instance, Multi, Part, Single}
use Rattle.lwm2m_values.specs.declared.value.Value.{Value}
use Rattle.lwm2m_values.specs.Value.{bytes_of}
use Rattle.lwm2m_values.specs.Tree.{Tree, Trees, instance, multi, part, single, none, more}
use Rattle.lwm2m_values.specs.Tlv.{shortest_head, shortest_tlv, shortest_node, AreNested, AreShort, IsShort, IsWritable}
use Rattle.lwm2m_values.specs.Tlv.{is_allowed}
use Rattle.object_defs.specs.declared.definition.ResourceDef.{ResourceDef}
use Rattle.object_defs.specs.declared.path.Path.TheVariants as path
use Rattle.instance_store.specs.Stored.{Stored}
use Rattle.lwm2m_payloads.specs.Building.{with_last}
use Rattle.lwm2m_payloads.specs.Nodes.{Pairs, before_part, before_value, nodes_of, shown_in, instance_node}
use Rattle.lwm2m_payloads.specs.Nodes.{object_nodes, within_limit}

mutual
  -- what is short as a whole has short contents
  node_is_short : (t : Tree) → length (shortest_node t) < 16777216 → IsShort t
  node_is_short (instance i inner) h = let e =
      length-append (shortest_head Instance i (length (shortest_tlv inner))) (shortest_tlv inner) in let inside : length
      (shortest_tlv inner) < 16777216 = omega arith in (are_short inner inside, inside)
  node_is_short (multi i inner) h = let e =
      length-append (shortest_head Multi i (length (shortest_tlv inner))) (shortest_tlv inner) in let inside : length
      (shortest_tlv inner) < 16777216 = omega arith in (are_short inner inside, inside)
  node_is_short (part n bytes) h = let e = length-append (shortest_head Part n (length bytes)) bytes in omega arith
  node_is_short (single n bytes) h = let e = length-append (shortest_head Single n (length bytes)) bytes in omega arith

  pub are_short : (nodes : Trees) → length (shortest_tlv nodes) < 16777216 → AreShort nodes
  are_short none h = tt
  are_short (more t nodes) h = let e =
      length-append (shortest_node t) (shortest_tlv nodes)
      in (node_is_short t (omega arith), are_short nodes (omega arith))

within_or_short : (nodes : Trees) (b : Bool) → nat_lt 1024 (length (shortest_tlv nodes)) ≡ b → (AreShort nodes → ⊥)
    → None ≡ (if b then None else Some (shortest_tlv nodes))
within_or_short nodes true e h = refl
within_or_short nodes false e h = absurd (h (are_short nodes (grind (arith, nat_tests))))

-- records that are nested well but cannot be written are too long for a payload
pub too_long : (nodes : Trees) → AreNested Top nodes → (IsWritable nodes → ⊥) → None ≡ within_limit (shortest_tlv nodes)
too_long nodes nested h =
    within_or_short nodes (nat_lt 1024 (length (shortest_tlv nodes))) refl (λ short. h (nested, short))

nested_part : (level : Around) → is_allowed level Multi ≡ true → (r n : ℕ) (bytes : List ℕ) (nodes : Trees)
    → AreNested level nodes → AreNested level (before_part r (part n bytes) nodes)
nested_part level allowed r n bytes none h = ((allowed, (refl, tt)), tt)
nested_part level allowed r n bytes (more (instance i inner) nodes) h = ((allowed, (refl, tt)), h)
nested_part level allowed r n bytes (more (part m b) nodes) h = ((allowed, (refl, tt)), h)
nested_part level allowed r n bytes (more (single i b) nodes) h = ((allowed, (refl, tt)), h)
nested_part level allowed r n bytes (more (multi q parts) nodes) h =
    elim (q == r) as (λ t. AreNested level (if t then more (multi r (more (part n bytes) parts)) nodes
    else more (multi r (more (part n bytes) none)) (more (multi q parts) nodes))) [
      | true ↦ ((allowed, (refl, h.0.1)), h.1)
      | false ↦ ((allowed, (refl, tt)), h)
    ]

nested_value : (level : Around) → is_allowed level Multi ≡ true → is_allowed level Single ≡ true
    → (r : ℕ) (n : Option ℕ) (v : Value) (nodes : Trees) → AreNested level nodes
    → AreNested level (before_value r n v nodes)
nested_value level multis singles r None v nodes h = (singles, h)
nested_value level multis singles r (Some n) v nodes h = nested_part level multis r n (bytes_of v) nodes h

nested_values : (level : Around) → is_allowed level Multi ≡ true → is_allowed level Single ≡ true → (es : Pairs)
    → AreNested level (nodes_of es)
nested_values level multis singles [] = tt
nested_values level multis singles (e ∷ es) =
    nested_value level multis singles e.0.resource e.0.part e.1 (nodes_of es) (nested_values level multis singles es)

-- the records of values are nested well
pub nested : (es : Pairs) → AreNested Top (nodes_of es)
nested es = nested_values Top refl refl es

-- and so are those of an object
pub nested_object : (stored : Stored) (resources : List ResourceDef) (object : ℕ) (instances : List ℕ)
    → AreNested Top (object_nodes stored resources object instances)
nested_object stored resources object [] = tt
nested_object stored resources object (i ∷ instances) = (
  (refl, nested_values InInstance refl refl (shown_in stored resources (path.Instance object i))),
  nested_object stored resources object instances,
)

-- one instance more
pub object_nodes-push : (stored : Stored) (resources : List ResourceDef) (object : ℕ) (instances : List ℕ) (i : ℕ)
    → object_nodes stored resources object (instances ++ i ∷ [])
    ≡ with_last (object_nodes stored resources object instances) (instance_node stored resources object i)
object_nodes-push stored resources object [] i = refl
object_nodes-push stored resources object (j ∷ instances) i =
    ap (more (instance_node stored resources object j)) (object_nodes-push stored resources object instances i)
