-- The shortest TLV of trees is TLV of them.
use Rattle.std.proofs.Common.{◌≡◌, ℕ, ◌+◌, ◌-◌, ◌*◌, ◌/◌, ◌%◌, ◌<◌, ◌≤◌, List, ◌++◌, length, cond, eqb, ltb, ne_eqb}
use Rattle.std.proofs.Common.{true, ◌⊎◌, inl, inr, refl, ap, ◌∙◌, arith}
use mathlib.Core.List.{append_assoc}
use Rattle.std.specs.Int.Digits.{number_from_digits}
use Rattle.std.proofs.lemmas.Bool.Decides.{nat_tests}
use Rattle.lwm2m_values.specs.declared.level.RecordType.{RecordType}
use Rattle.lwm2m_values.specs.declared.level.RecordType.TheVariants.{Instance, Part, Multi, Single}
use Rattle.lwm2m_values.specs.declared.level.Around.{Around}
use Rattle.lwm2m_values.specs.declared.level.Around.TheVariants.{InInstance, InMulti}
use Rattle.lwm2m_values.specs.Tree.{Tree, Trees, instance, multi, part, single, none, more}
use Rattle.lwm2m_values.specs.Tlv.{type_bits, is_allowed, IsHead, Holds, IsNodes, id_field, size_field, shortest_head}
use Rattle.lwm2m_values.specs.Tlv.{shortest_node, shortest_tlv, IsNested, AreNested}

id_value : (id : ℕ) → id ≡ number_from_digits 256 (id_field id)
id_value id = grind (arith, nat_tests)

id_length : (id : ℕ) → (1 ≤ length (id_field id)) × (length (id_field id) ≤ 2)
id_length id = grind (arith, nat_tests)

-- with no length field the three low bits are the size, else they are 0 and the field is the size
size_parts : (n : ℕ) → ((length (size_field n) ≡ 0) × (cond (ltb n 8) n 0 ≡ n) × (n < 8))
    ⊎ ((1 ≤ length (size_field n)) × (length (size_field n) ≤ 3) × (cond (ltb n 8) n 0 ≡ 0)
    × (n ≡ number_from_digits 256 (size_field n)))
size_parts n = grind (arith, nat_tests)

first_kind : (b i w s : ℕ) → i ≤ 1 → w ≤ 3 → s ≤ 7 → b ≡ (64 * b + 32 * i + 8 * w + s) / 64
first_kind b i w s p q r = omega arith

first_id : (b i w s : ℕ) → i ≤ 1 → w ≤ 3 → s ≤ 7 → i ≡ (64 * b + 32 * i + 8 * w + s) / 32 % 2
first_id b i w s p q r = omega arith

first_size : (b i w s : ℕ) → i ≤ 1 → w ≤ 3 → s ≤ 7 → w ≡ (64 * b + 32 * i + 8 * w + s) / 8 % 4
first_size b i w s p q r = omega arith

first_low : (b i w s : ℕ) → i ≤ 1 → w ≤ 3 → s ≤ 7 → s ≡ (64 * b + 32 * i + 8 * w + s) % 8
first_low b i w s p q r = omega arith

-- how a reader finds the size
size_read : (n b i w s : ℕ) → w ≡ length (size_field n) → s ≡ cond (ltb n 8) n 0
    → w ≡ (64 * b + 32 * i + 8 * w + s) / 8 % 4 → s ≡ (64 * b + 32 * i + 8 * w + s) % 8
    → n ≡ cond (eqb ((64 * b + 32 * i + 8 * w + s) / 8 % 4) 0) ((64 * b + 32 * i + 8 * w + s) % 8)
    (number_from_digits 256 (size_field n))
size_read n b i w s w_is s_is width low =
    elim (size_parts n) [
      | inl none_there ↦ let width_zero : w ≡ 0 = omega arith in rw (← width, ← low, width_zero) (omega arith)
      | inr field ↦ let wide : 1 ≤ w = omega arith in rw (← width, ne_eqb w 0 (omega arith)) field.3
    ]

pub head_written : (kind : RecordType) (id size : ℕ) → IsHead (shortest_head kind id size) kind id size
head_written kind id size =
    let i = length (id_field id) - 1 in
    let w = length (size_field size) in
    let s = cond (ltb size 8) size 0 in
    let ids = id_length id in
    let i_small : i ≤ 1 = omega arith in
    let w_small : w ≤ 3 = elim (size_parts size) [ inl none_there ↦ omega arith | inr field ↦ omega arith ] in
    let s_small : s ≤ 7 = elim (size_parts size) [ inl none_there ↦ omega arith | inr field ↦ omega arith ] in
    let low = first_low (type_bits kind) i w s i_small w_small s_small in
    let width = first_size (type_bits kind) i w s i_small w_small s_small in
    let field_bit = first_id (type_bits kind) i w s i_small w_small s_small in
    record {
      first = 64 * type_bits kind + 32 * i + 8 * w + s;
      id_bytes = id_field id;
      size_bytes = size_field size;
      parts = refl;
      kind_is = first_kind (type_bits kind) i w s i_small w_small s_small;
      id_width = omega arith;
      id_is = id_value id;
      size_width = width;
      size_is = size_read size (type_bits kind) i w s refl refl width low;
    }

abbrev IsTree : Tree → Around → List ℕ → Type 0
IsTree t level bytes =
    (kind : RecordType) × (id : ℕ) × (content : List ℕ) × (bytes ≡ shortest_head kind id (length content) ++ content)
    × (is_allowed level kind ≡ true) × Holds t kind id content

mutual
  tree_written : (t : Tree) (level : Around) → IsNested level t → IsTree t level (shortest_node t)
  tree_written (instance id inner) level p =
      (Instance, id, shortest_tlv inner, refl, p.0, (refl, refl, nodes_written inner InInstance p.1))
  tree_written (multi id inner) level p =
      (Multi, id, shortest_tlv inner, refl, p.0, (refl, refl, nodes_written inner InMulti p.1))
  tree_written (part id bytes) level p = (Part, id, bytes, refl, p, (refl, refl, refl))
  tree_written (single id bytes) level p = (Single, id, bytes, refl, p, (refl, refl, refl))

  pub nodes_written : (f : Trees) (level : Around) → AreNested level f → IsNodes f level (shortest_tlv f)
  nodes_written none level p = refl
  nodes_written (more n ns) level p =
      let h = tree_written n level p.0 in
      let head = shortest_head h.0 h.1 (length h.2) in (
        h.0,
        h.1,
        head,
        h.2,
        shortest_tlv ns,
        head_written h.0 h.1 (length h.2),
        ap (λ x. x ++ shortest_tlv ns) h.3 ∙ append_assoc head h.2 (shortest_tlv ns),
        h.4,
        h.5,
        nodes_written ns level p.1,
      )
