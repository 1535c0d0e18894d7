-- Bytes are TLV of some trees, or have a fault.
use Rattle.std.proofs.Common.{◌≡◌, ℕ, zero, suc, ◌<◌, ◌≤◌, List, [], ◌∷◌, ◌++◌, length, Bool, true, false, Some, None}
use Rattle.std.proofs.Common.{Option, ◌⊎◌, inl, inr, refl, sym, ap, ◌∙◌, arith, length-append}
use mathlib.Core.List.{append_assoc}
use Rattle.lwm2m_values.specs.declared.fault.TlvFault.{TlvFault}
use Rattle.lwm2m_values.specs.declared.fault.TlvFault.TheVariants.{Cut, Nesting}
use Rattle.lwm2m_values.specs.declared.level.RecordType.{RecordType}
use Rattle.lwm2m_values.specs.declared.level.RecordType.TheVariants.{Instance, Part, Multi, Single}
use Rattle.lwm2m_values.specs.declared.level.Around.{Around}
use Rattle.lwm2m_values.specs.declared.level.Around.TheVariants.{Top, InInstance, InMulti}
use Rattle.lwm2m_values.specs.Tree.{Tree, Trees, instance, multi, part, single, none, more}
use Rattle.lwm2m_values.specs.Tlv.{IsHead, IsCut, IsNodes, IsTlv, IsFront, Holds, HasFault, is_allowed, level_within}
use Rattle.lwm2m_values.specs.Tlv.{cut, nesting, within}
use Rattle.lwm2m_values.specs.Reading.{Record, record_at}
use Rattle.lwm2m_values.proofs.TlvReading.{IsRecordOf, record_from, record_to, head_long}

-- one record more before those after which there is a fault
front_later : (level : Around) (bytes head content rest r : List ℕ) (kind : RecordType) (id : ℕ) (t : Tree) (f : Trees)
    → IsHead head kind id (length content) → bytes ≡ head ++ (content ++ rest) → is_allowed level kind ≡ true
    → Holds t kind id content → IsFront level rest f r → IsFront level bytes (more t f) r
front_later level bytes head content rest r kind id t f h e a holds p = (
  head ++ (content ++ p.0),
  (kind, id, head, content, p.0, h, refl, a, holds, p.1),
  e ∙ ap (λ x. head ++ (content ++ x)) p.2 ∙ ap (λ x. head ++ x) (sym (append_assoc content p.0 r))
      ∙ sym (append_assoc head (content ++ p.0) r),
)

fault_later : (level : Around) (bytes head content rest : List ℕ) (kind : RecordType) (id : ℕ) (t : Tree) (e : TlvFault)
    → IsHead head kind id (length content) → bytes ≡ head ++ (content ++ rest) → is_allowed level kind ≡ true
    → Holds t kind id content → HasFault level rest e → HasFault level bytes e
fault_later _ bytes head content _ kind id t _ h e a holds (cut level rest f r p long off) =
    cut level bytes (more t f) r (front_later level bytes head content rest r kind id t f h e a holds p) long off
fault_later _ bytes head content _ kind id t _ h e a holds (nesting level rest f k i g c r p q d) =
    nesting level bytes (more t f) k i g c r
    (front_later level bytes head content rest _ kind id t f h e a holds p) q d
fault_later _ bytes head content _ kind id t _ h e a holds (within level inner rest f k i g c r x p q d is w) =
    within level inner bytes (more t f) k i g c r x
    (front_later level bytes head content rest _ kind id t f h e a holds p) q d is w

abbrev Either : Around → List ℕ → Type 0
Either level bytes = ((f : Trees) × IsNodes f level bytes) ⊎ ((e : TlvFault) × HasFault level bytes e)

-- what a record holds, or the fault within
either_held : (kind : RecordType) (id : ℕ) (content : List ℕ)
    → ((inner : Around) → Either inner content)
    → ((t : Tree) × Holds t kind id content)
    ⊎ ((inner : Around) × (e : TlvFault) × (level_within kind ≡ Some inner) × HasFault inner content e)
either_held Instance id content each =
    elim (each InInstance) [
      | inl p ↦ inl (instance id p.0, (refl, refl, p.1))
      | inr q ↦ inr (InInstance, q.0, refl, q.1)
    ]
either_held Multi id content each =
    elim (each InMulti) [
      | inl p ↦ inl (multi id p.0, (refl, refl, p.1))
      | inr q ↦ inr (InMulti, q.0, refl, q.1)
    ]
either_held Part id content each = inl (part id content, (refl, refl, refl))
either_held Single id content each = inl (single id content, (refl, refl, refl))

either_more : (level : Around) (bytes : List ℕ) (r : Record) (head : List ℕ) (t : Tree)
    → IsHead head r.kind r.id (length r.content) → bytes ≡ head ++ (r.content ++ r.rest)
    → is_allowed level r.kind ≡ true → Holds t r.kind r.id r.content → Either level r.rest → Either level bytes
either_more level bytes r head t h e a holds (inl p) =
    inl (more t p.0, (r.kind, r.id, head, r.content, r.rest, h, e, a, holds, p.1))
either_more level bytes r head t h e a holds (inr q) =
    inr (q.0, fault_later level bytes head r.content r.rest r.kind r.id t q.0 h e a holds q.1)

either_record : (level : Around) (bytes : List ℕ) (r : Record) (allowed : Bool) → is_allowed level r.kind ≡ allowed
    → IsRecordOf bytes r → ((inner : Around) → Either inner r.content) → Either level r.rest → Either level bytes
either_record level bytes r false a is each later =
    inr (Nesting, nesting level bytes none r.kind r.id is.0 r.content r.rest ([], refl, is.2) is.1 a)
either_record level bytes r true a is each later =
    elim (either_held r.kind r.id r.content each) [
      | inl t ↦ either_more level bytes r is.0 t.0 is.1 is.2 a t.1 later
      | inr w ↦ inr (
        w.1,
        within level w.0 bytes none r.kind r.id is.0 r.content r.rest w.1 ([], refl, is.2) is.1 a w.2 w.3,
      )
    ]

-- where no record is read of the bytes, none stands there
cut_of : (bytes : List ℕ) → record_at bytes ≡ None → IsCut bytes
cut_of bytes e = λ head content rest kind id h is. absurd (cc (e, record_to bytes head content rest kind id h is))

either_at : (level : Around) (bytes : List ℕ) → 0 < length bytes
    → ((l : Around) (b : List ℕ) → length b < length bytes → Either l b)
    → (o : Option Record) → record_at bytes ≡ o → Either level bytes
either_at level bytes long each None e =
    inr (Cut, cut level bytes none bytes ([], refl, refl) long (cut_of bytes e))
either_at level bytes long each (Some r) e =
    let is = record_from bytes r e in
    let some : 0 < length is.0 = head_long is.0 r.kind r.id (length r.content) is.1 in
    let size = length-append is.0 (r.content ++ r.rest) in
    let inner_size = length-append r.content r.rest in
    let all = ap length is.2 in
    either_record level bytes r (is_allowed level r.kind) refl is
    (λ inner. each inner r.content (omega arith)) (each level r.rest (omega arith))

either_nodes : (steps : ℕ) (level : Around) (bytes : List ℕ) → length bytes ≤ steps → Either level bytes
either_nodes steps level [] enough = inl (none, refl)
either_nodes zero level (b ∷ bytes) enough = absurd (omega arith)
either_nodes (suc steps) level (b ∷ bytes) enough =
    either_at level (b ∷ bytes) (omega arith) (λ l c less. either_nodes steps l c (omega arith))
    (record_at (b ∷ bytes)) refl

pub either_tlv : (bytes : List ℕ) → ((f : Trees) × IsTlv f bytes) ⊎ ((e : TlvFault) × HasFault Top bytes e)
either_tlv bytes = either_nodes (length bytes) Top bytes (omega arith)
