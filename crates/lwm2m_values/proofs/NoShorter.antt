-- No TLV of trees is shorter than the shortest.
use Rattle.std.proofs.Common.{◌≡◌, ℕ, ◌+◌, ◌%◌, ◌<◌, ◌≤◌, suc, List, [], ◌∷◌, ◌++◌, length, cond, eqb, sym, ap, subst}
use Rattle.std.proofs.Common.{◌∙◌, arith, length-append}
use Rattle.std.specs.Int.Digits.{number_from_digits, AllBelowBase}
use Rattle.std.proofs.lemmas.Bool.Decides.{nat_tests}
use Rattle.lemmas.proofs.Lists.{below_front, below_back}
use Rattle.lwm2m_values.specs.declared.level.RecordType.{RecordType}
use Rattle.lwm2m_values.specs.declared.level.RecordType.TheVariants.{Instance, Part, Multi, Single}
use Rattle.lwm2m_values.specs.declared.level.Around.{Around}
use Rattle.lwm2m_values.specs.declared.level.Around.TheVariants.{InInstance, InMulti}
use Rattle.lwm2m_values.specs.Tree.{Tree, Trees, instance, multi, part, single, none, more}
use Rattle.lwm2m_values.specs.Tlv.{IsHead, Holds, IsNodes, id_field, size_field, shortest_head, shortest_node}
use Rattle.lwm2m_values.specs.Tlv.{shortest_tlv}

id_wide : (id : ℕ) → length (id_field id) ≤ 2
id_wide id = grind (arith, nat_tests)

id_narrow : (id : ℕ) → id < 256 → length (id_field id) ≡ 1
id_narrow id small = grind (arith, nat_tests)

no_shorter_id : (id : ℕ) (bytes : List ℕ) → AllBelowBase 256 bytes → id ≡ number_from_digits 256 bytes
    → 0 < length bytes → length (id_field id) ≤ length bytes
no_shorter_id id [] below e some = absurd (omega arith)
no_shorter_id id (x ∷ []) below e some = omega (arith, id_narrow id (omega (arith, below.0)))
no_shorter_id id (x ∷ y ∷ bytes) below e some = omega (arith, id_wide id)

size_0 : (n : ℕ) → n < 8 → length (size_field n) ≡ 0
size_0 n small = grind (arith, nat_tests)

size_1 : (n : ℕ) → n < 256 → length (size_field n) ≤ 1
size_1 n small = grind (arith, nat_tests)

size_2 : (n : ℕ) → n < 65536 → length (size_field n) ≤ 2
size_2 n small = grind (arith, nat_tests)

size_3 : (n : ℕ) → length (size_field n) ≤ 3
size_3 n = grind (arith, nat_tests)

no_shorter_size : (n m low : ℕ) (bytes : List ℕ) → AllBelowBase 256 bytes → n ≤ m → low < 8
    → m ≡ cond (eqb (length bytes) 0) low (number_from_digits 256 bytes) → length (size_field n) ≤ length bytes
no_shorter_size n m low [] below fewer small e = omega (arith, size_0 n (omega arith))
no_shorter_size n m low (x ∷ []) below fewer small e = omega (arith, size_1 n (omega (arith, below.0)))
no_shorter_size n m low (x ∷ y ∷ []) below fewer small e = omega (arith, size_2 n (omega (arith, below.0, below.1.0)))
no_shorter_size n m low (x ∷ y ∷ z ∷ bytes) below fewer small e = omega (arith, size_3 n)

-- a head for as long a content or a longer one is no shorter
no_shorter_head : (head : List ℕ) (kind : RecordType) (id n m : ℕ) → IsHead head kind id m → AllBelowBase 256 head
    → n ≤ m → length (shortest_head kind id n) ≤ length head
no_shorter_head head kind id n m h below fewer =
    let all = subst (AllBelowBase 256) h.parts below in
    let ids = no_shorter_id id h.id_bytes (below_front h.id_bytes h.size_bytes all.1) h.id_is
    (omega (arith, h.id_width)) in
    let size_is : m ≡ cond (eqb (length h.size_bytes) 0) (h.first % 8) (number_from_digits 256 h.size_bytes) =
    h.size_is ∙ ap (λ x. cond (eqb x 0) (h.first % 8) (number_from_digits 256 h.size_bytes)) (sym h.size_width) in
    let sizes = no_shorter_size n m (h.first % 8) h.size_bytes (below_back h.id_bytes h.size_bytes all.1) fewer
    (omega arith) size_is in
    omega (arith, ap length h.parts, length-append h.id_bytes h.size_bytes, length-append (id_field id) (size_field n))

-- the length of a head is that of any other type's, of the same identifier
same_length : (k l : RecordType) (i j n : ℕ) → i ≡ j → length (shortest_head k i n) ≡ length (shortest_head l j n)
same_length k l i j n e = ap (λ x. suc (length (id_field x ++ size_field n))) e

mutual
  no_shorter_node : (t : Tree) (kind : RecordType) (id : ℕ) (head content : List ℕ)
      → IsHead head kind id (length content) → Holds t kind id content → AllBelowBase 256 head
      → AllBelowBase 256 content → length (shortest_node t) ≤ length head + length content
  no_shorter_node (instance i inner) kind id head content h p below within =
      let fewer = no_shorter_nodes inner InInstance content p.2 within in
      let heads = no_shorter_head head kind id (length (shortest_tlv inner)) (length content) h below fewer in
      omega (
        arith,
        length-append (shortest_head Instance i (length (shortest_tlv inner))) (shortest_tlv inner),
        same_length Instance kind i id (length (shortest_tlv inner)) p.1,
      )
  no_shorter_node (multi i inner) kind id head content h p below within =
      let fewer = no_shorter_nodes inner InMulti content p.2 within in
      let heads = no_shorter_head head kind id (length (shortest_tlv inner)) (length content) h below fewer in
      omega (
        arith,
        length-append (shortest_head Multi i (length (shortest_tlv inner))) (shortest_tlv inner),
        same_length Multi kind i id (length (shortest_tlv inner)) p.1,
      )
  no_shorter_node (part i bytes) kind id head content h p below within =
      let heads = no_shorter_head head kind id (length bytes) (length content) h below (omega (arith, ap length p.2)) in
      omega (
        arith,
        ap length p.2,
        length-append (shortest_head Part i (length bytes)) bytes,
        same_length Part kind i id (length bytes) p.1,
      )
  no_shorter_node (single i bytes) kind id head content h p below within =
      let heads = no_shorter_head head kind id (length bytes) (length content) h below (omega (arith, ap length p.2)) in
      omega (
        arith,
        ap length p.2,
        length-append (shortest_head Single i (length bytes)) bytes,
        same_length Single kind i id (length bytes) p.1,
      )

  pub no_shorter_nodes : (f : Trees) (level : Around) (bytes : List ℕ) → IsNodes f level bytes → AllBelowBase 256 bytes
      → length (shortest_tlv f) ≤ length bytes
  no_shorter_nodes none level bytes p below = omega arith
  no_shorter_nodes (more n ns) level bytes p below =
      let all = subst (AllBelowBase 256) p.6 below in
      let behind = below_back p.2 (p.3 ++ p.4) all in
      let first = no_shorter_node n p.0 p.1 p.2 p.3 p.5 p.8 (below_front p.2 (p.3 ++ p.4) all)
      (below_front p.3 p.4 behind) in
      let later = no_shorter_nodes ns level p.4 p.9 (below_back p.3 p.4 behind) in
      omega (
        arith,
        ap length p.6,
        length-append p.2 (p.3 ++ p.4),
        length-append p.3 p.4,
        length-append (shortest_node n) (shortest_tlv ns),
      )
