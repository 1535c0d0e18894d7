-- Bytes are TLV of one list of trees, or have one fault, and never both.
use Rattle.std.proofs.Common.{◌≡◌, ℕ, ◌<◌, List, [], ◌∷◌, ◌++◌, length, true, false, Some, None, refl, sym, ap, subst}
use Rattle.std.proofs.Common.{◌∙◌, arith}
use mathlib.Core.List.{append_assoc, append-nil}
use Rattle.lwm2m_values.specs.declared.fault.TlvFault.{TlvFault}
use Rattle.lwm2m_values.specs.declared.level.RecordType.{RecordType}
use Rattle.lwm2m_values.specs.declared.level.Around.{Around}
use Rattle.lwm2m_values.specs.declared.level.Around.TheVariants.{InInstance, InMulti}
use Rattle.lwm2m_values.specs.Tree.{Tree, Trees, instance, multi, part, single, none, more}
use Rattle.lwm2m_values.specs.Tlv.{IsHead, IsCut, IsNodes, IsFront, Holds, HasFault, is_allowed, level_within, cut}
use Rattle.lwm2m_values.specs.Tlv.{nesting, within}
use Rattle.lwm2m_values.proofs.OneRecord.{one_record}

-- no record that may stand there begins here
abbrev pub IsEnd : Around → List ℕ → Type 0
IsEnd level at =
    (tree : Tree) (kind : RecordType) (id : ℕ) (head content rest : List ℕ) → IsHead head kind id (length content)
    → at ≡ head ++ (content ++ rest) → is_allowed level kind ≡ true → Holds tree kind id content → ⊥

end_nil : (level : Around) → IsEnd level []
end_nil level = λ tree kind id head content rest h e a w.
    let bytes : [] ≡ (h.first ∷ (h.id_bytes ++ h.size_bytes)) ++ (content ++ rest) =
    e ∙ ap (λ x. x ++ (content ++ rest)) h.parts in
    absurd (omega (arith, ap length bytes))

pub end_cut : (level : Around) (at : List ℕ) → IsCut at → IsEnd level at
end_cut level at cut_off = λ tree kind id head content rest h e a w. cut_off head content rest kind id h e

pub end_nesting : (level : Around) (kind : RecordType) (id : ℕ) (head content rest : List ℕ)
    → IsHead head kind id (length content) → is_allowed level kind ≡ false → IsEnd level (head ++ (content ++ rest))
end_nesting level kind id head content rest is_head allowed = λ tree k i h c r w e a holds.
    let same = one_record head h kind k id i content c rest r is_head w e in
    let both : false ≡ true = sym allowed ∙ ap (is_allowed level) same.kind ∙ a in
    cc

pub inner_nodes : (tree : Tree) (kind : RecordType) (id : ℕ) (content : List ℕ) (inner : Around)
    → Holds tree kind id content
    → level_within kind ≡ Some inner → (nodes : Trees) × IsNodes nodes inner content
inner_nodes (instance i nodes) kind id content inner p e =
    let same : Some InInstance ≡ Some inner = sym (ap level_within p.0) ∙ e in
    let level : InInstance ≡ inner = cc in
    (nodes, subst (λ (l : Around). IsNodes nodes l content) level p.2)
inner_nodes (multi i nodes) kind id content inner p e =
    let same : Some InMulti ≡ Some inner = sym (ap level_within p.0) ∙ e in
    let level : InMulti ≡ inner = cc in
    (nodes, subst (λ (l : Around). IsNodes nodes l content) level p.2)
inner_nodes (part i bytes) kind id content inner p e = let same : None ≡ Some inner =
    sym (ap level_within p.0) ∙ e in absurd cc
inner_nodes (single i bytes) kind id content inner p e = let same : None ≡ Some inner =
    sym (ap level_within p.0) ∙ e in absurd cc

pub end_within : (level inner : Around) (kind : RecordType) (id : ℕ) (head content rest : List ℕ)
    → IsHead head kind id (length content) → level_within kind ≡ Some inner
    → ((nodes : Trees) → IsNodes nodes inner content → ⊥) → IsEnd level (head ++ (content ++ rest))
end_within level inner kind id head content rest is_head e unread = λ tree k i h c r w at a holds.
    let same = one_record head h kind k id i content c rest r is_head w at in
    let nodes = inner_nodes tree k i c inner holds (ap level_within (sym same.kind) ∙ e) in
    unread nodes.0 (subst (λ (x : List ℕ). IsNodes nodes.0 inner x) (sym same.content) nodes.1)

mutual
  one_tree : (t u : Tree) (kind : RecordType) (id : ℕ) (content : List ℕ) → Holds t kind id content
      → Holds u kind id content → t ≡ u
  one_tree (instance i f) (instance j g) kind id content p q =
      let same = one_front f g InInstance content content [] [] p.2 q.2 refl (end_nil InInstance)
      (end_nil InInstance) in
      ap (λ x. instance x f) (p.1 ∙ sym q.1) ∙ ap (instance j) same.0
  one_tree (multi i f) (multi j g) kind id content p q =
      let same = one_front f g InMulti content content [] [] p.2 q.2 refl (end_nil InMulti) (end_nil InMulti) in
      ap (λ x. multi x f) (p.1 ∙ sym q.1) ∙ ap (multi j) same.0
  one_tree (part i a) (part j b) kind id content p q = ap (λ x. part x a) (p.1 ∙ sym q.1) ∙ ap (part j) (p.2 ∙ sym q.2)
  one_tree (single i a) (single j b) kind id content p q =
      ap (λ x. single x a) (p.1 ∙ sym q.1) ∙ ap (single j) (p.2 ∙ sym q.2)
  one_tree t u kind id content p q = let differ = sym p.0 ∙ q.0 in cc differ

  one_front : (f g : Trees) (level : Around) (a b r s : List ℕ) → IsNodes f level a → IsNodes g level b
      → a ++ r ≡ b ++ s
      → IsEnd level r → IsEnd level s → (f ≡ g) × (r ≡ s)
  one_front none none level a b r s p q e u v = (refl, ap (λ x. x ++ r) (sym p) ∙ e ∙ ap (λ x. x ++ s) q)
  one_front none (more n ns) level a b r s p q e u v =
      let at : r ≡ q.2 ++ (q.3 ++ (q.4 ++ s)) =
      ap (λ x. x ++ r) (sym p) ∙ e ∙ ap (λ x. x ++ s) q.6 ∙ append_assoc q.2 (q.3 ++ q.4) s
      ∙ ap (λ x. q.2 ++ x) (append_assoc q.3 q.4 s) in
      absurd (u n q.0 q.1 q.2 q.3 (q.4 ++ s) q.5 at q.7 q.8)
  one_front (more m ms) none level a b r s p q e u v =
      let at : s ≡ p.2 ++ (p.3 ++ (p.4 ++ r)) =
      ap (λ x. x ++ s) (sym q) ∙ sym e ∙ ap (λ x. x ++ r) p.6 ∙ append_assoc p.2 (p.3 ++ p.4) r
      ∙ ap (λ x. p.2 ++ x) (append_assoc p.3 p.4 r) in
      absurd (v m p.0 p.1 p.2 p.3 (p.4 ++ r) p.5 at p.7 p.8)
  one_front (more m ms) (more n ns) level a b r s p q e u v =
      let left : a ++ r ≡ p.2 ++ (p.3 ++ (p.4 ++ r)) =
      ap (λ x. x ++ r) p.6 ∙ append_assoc p.2 (p.3 ++ p.4) r ∙ ap (λ x. p.2 ++ x) (append_assoc p.3 p.4 r) in
      let right : b ++ s ≡ q.2 ++ (q.3 ++ (q.4 ++ s)) =
      ap (λ x. x ++ s) q.6 ∙ append_assoc q.2 (q.3 ++ q.4) s ∙ ap (λ x. q.2 ++ x) (append_assoc q.3 q.4 s) in
      let same = one_record p.2 q.2 p.0 q.0 p.1 q.1 p.3 q.3 (p.4 ++ r) (q.4 ++ s) p.5 q.5 (sym left ∙ e ∙ right) in
      let by_kind : Holds m q.0 p.1 p.3 = subst (λ (x : RecordType). Holds m x p.1 p.3) same.kind p.8 in
      let by_id : Holds m q.0 q.1 p.3 = subst (λ (x : ℕ). Holds m q.0 x p.3) same.id by_kind in
      let by_content : Holds m q.0 q.1 q.3 = subst (λ (x : List ℕ). Holds m q.0 q.1 x) same.content by_id in
      let nodes = one_tree m n q.0 q.1 q.3 by_content q.8 in
      let later = one_front ms ns level p.4 q.4 r s p.9 q.9 same.rest u v in
      (ap (λ x. more x ms) nodes ∙ ap (more n) later.0, later.1)

pub one_reading : (f g : Trees) (level : Around) (bytes : List ℕ) → IsNodes f level bytes → IsNodes g level bytes
    → f ≡ g
one_reading f g level bytes p q = (one_front f g level bytes bytes [] [] p q refl (end_nil level) (end_nil level)).0

-- whole records up to an end that is not the end of the bytes
stops : (f g : Trees) (level : Around) (bytes rest : List ℕ) → IsNodes f level bytes → IsFront level bytes g rest
    → IsEnd level rest → 0 < length rest → ⊥
stops f g level bytes rest p q ends long =
    let same = one_front f g level bytes q.0 [] rest p q.1 (append-nil bytes ∙ q.2) (end_nil level) ends in
    absurd (omega (arith, ap length same.1))

record_long : (head content rest : List ℕ) (kind : RecordType) (id : ℕ) → IsHead head kind id (length content)
    → 0 < length (head ++ (content ++ rest))
record_long head content rest kind id h =
    subst (λ (x : List ℕ). 0 < length (x ++ (content ++ rest))) (sym h.parts) (omega arith)

pub not_both : (level : Around) (bytes : List ℕ) (e : TlvFault) → HasFault level bytes e → (f : Trees)
    → IsNodes f level bytes → ⊥
not_both _ _ _ (cut level bytes nodes rest p long cut_off) f q =
    stops f nodes level bytes rest q p (end_cut level rest cut_off) long
not_both _ _ _ (nesting level bytes nodes kind id head content rest p h allowed) f q =
    stops f nodes level bytes _ q p (end_nesting level kind id head content rest h allowed)
    (record_long head content rest kind id h)
not_both _ _ _ (within level inner bytes nodes kind id head content rest e p h allowed is_inner w) f q =
    stops f nodes level bytes _ q p (end_within level inner kind id head content rest h is_inner
    (not_both inner content e w)) (record_long head content rest kind id h)

-- two ends after whole records are one place
pub one_place : (f g : Trees) (level : Around) (bytes r s : List ℕ) → IsFront level bytes f r → IsFront level bytes g s
    → IsEnd level r → IsEnd level s → r ≡ s
one_place f g level bytes r s p q u v = (one_front f g level p.0 q.0 r s p.1 q.1 (sym p.2 ∙ q.2) u v).1

pub one_fault : (level : Around) (bytes : List ℕ) (d e : TlvFault) → HasFault level bytes d → HasFault level bytes e
    → d ≡ e
one_fault _ _ _ _ (cut level bytes f r p long off) (cut _ _ g s q wide out) = refl
one_fault _ _ _ _ (cut level bytes f r p long off) (nesting _ _ g kind id head content rest q h allowed) =
    let place = one_place f g level bytes r _ p q (end_cut level r off)
    (end_nesting level kind id head content rest h allowed) in
    absurd (off head content rest kind id h place)
one_fault _ _ _ _ (cut level bytes f r p long off)
    (within _ inner _ g kind id head content rest e q h allowed is_inner w) =
    let place = one_place f g level bytes r _ p q (end_cut level r off)
    (end_within level inner kind id head content rest h is_inner (not_both inner content e w)) in
    absurd (off head content rest kind id h place)
one_fault _ _ _ _ (nesting level bytes f kind id head content rest p h allowed) (cut _ _ g s q wide out) =
    let place = one_place g f level bytes s _ q p (end_cut level s out)
    (end_nesting level kind id head content rest h allowed) in
    absurd (out head content rest kind id h place)
one_fault _ _ _ _ (nesting level bytes f kind id head content rest p h allowed)
    (nesting _ _ g k i hd c r q w disallowed) = refl
one_fault _ _ _ _ (nesting level bytes f kind id head content rest p h allowed)
    (within _ inner _ g k i hd c r e q w fine is_inner v) =
    let place = one_place f g level bytes _ _ p q (end_nesting level kind id head content rest h allowed)
    (end_within level inner k i hd c r w is_inner (not_both inner c e v)) in
    let same = one_record head hd kind k id i content c rest r h w place in
    let both : false ≡ true = sym allowed ∙ ap (is_allowed level) same.kind ∙ fine in
    cc
one_fault _ _ _ _ (within level inner bytes f kind id head content rest d p h allowed is_inner w)
    (cut _ _ g s q wide out) =
    let place = one_place g f level bytes s _ q p (end_cut level s out)
    (end_within level inner kind id head content rest h is_inner (not_both inner content d w)) in
    absurd (out head content rest kind id h place)
one_fault _ _ _ _ (within level inner bytes f kind id head content rest d p h allowed is_inner w)
    (nesting _ _ g k i hd c r q v disallowed) =
    let place = one_place f g level bytes _ _ p q
    (end_within level inner kind id head content rest h is_inner (not_both inner content d w))
    (end_nesting level k i hd c r v disallowed) in
    let same = one_record head hd kind k id i content c rest r h v place in
    let both : false ≡ true = sym disallowed ∙ ap (is_allowed level) (sym same.kind) ∙ allowed in
    cc
one_fault _ _ _ _ (within level inner bytes f kind id head content rest d p h allowed is_inner w)
    (within _ deep _ g k i hd c r e q v fine is_deep x) =
    let place = one_place f g level bytes _ _ p q
    (end_within level inner kind id head content rest h is_inner (not_both inner content d w))
    (end_within level deep k i hd c r v is_deep (not_both deep c e x)) in
    let same = one_record head hd kind k id i content c rest r h v place in
    let levels : Some deep ≡ Some inner = sym is_deep ∙ ap level_within (sym same.kind) ∙ is_inner in
    let level_same : deep ≡ inner = cc in
    let there : HasFault inner c e = subst (λ (l : Around). HasFault l c e) level_same x in
    one_fault inner content d e w (subst (λ (y : List ℕ). HasFault inner y e) (sym same.content) there)
