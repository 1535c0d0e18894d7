-- A fault of the first record is a fault, and nothing was read before it.
use Rattle.std.proofs.Common.{◌≡◌, ℕ, List, [], ◌∷◌, ◌++◌, length, true, false, Some, refl}
use Rattle.std.proofs.Common.{sym, ap, subst, ◌∙◌, arith}
use mathlib.Core.List.{append_assoc, append-nil}
use Rattle.lwm2m_values.specs.declared.fault.TlvFault.{TlvFault}
use Rattle.lwm2m_values.specs.declared.level.RecordType.{RecordType}
use Rattle.lwm2m_values.specs.declared.level.Around.{Around}
use Rattle.lwm2m_values.specs.Tree.{Trees, none, more}
use Rattle.lwm2m_values.specs.Tlv.{IsHead, IsNodes, IsFront, HasFault, HasEarlyFault, is_allowed, level_within, cut}
use Rattle.lwm2m_values.specs.Tlv.{nesting, within, early_cut, early_nesting, early_within}
use Rattle.lwm2m_values.proofs.OneRecord.{one_record}
use Rattle.lwm2m_values.proofs.OneTlv.{inner_nodes, not_both}

pub early_is_fault : (level : Around) (bytes : List ℕ) (f : TlvFault) → HasEarlyFault level bytes f
    → HasFault level bytes f
early_is_fault _ _ _ (early_cut level bytes long off) = cut level bytes none bytes ([], refl, refl) long off
early_is_fault _ _ _ (early_nesting level bytes kind id head content rest h e a) =
    nesting level bytes none kind id head content rest ([], refl, e) h a
early_is_fault _ _ _ (early_within level inner bytes kind id head content rest f h e a i w) =
    within level inner bytes none kind id head content rest f ([], refl, e) h a i (early_is_fault inner content f w)

-- where the first record is whole and may stand there, the fault is that of its content
pub early_inside : (level : Around) (bytes : List ℕ) (f : TlvFault) (kind : RecordType) (id : ℕ)
    (head content rest : List ℕ) → HasEarlyFault level bytes f → IsHead head kind id (length content)
    → bytes ≡ head ++ (content ++ rest) → is_allowed level kind ≡ true
    → (inner : Around) × (level_within kind ≡ Some inner) × HasEarlyFault inner content f
early_inside _ _ _ kind id head content rest (early_cut level bytes long off) h e a =
    absurd (off head content rest kind id h e)
early_inside _ _ _ kind id head content rest (early_nesting level bytes k i hd c r q w d) h e a =
    let same = one_record head hd kind k id i content c rest r h q (sym e ∙ w) in
    let both : false ≡ true = sym d ∙ ap (is_allowed level) (sym same.kind) ∙ a in
    cc
early_inside _ _ _ kind id head content rest (early_within level inner bytes k i hd c r f q w d is v) h e a =
    let same = one_record head hd kind k id i content c rest r h q (sym e ∙ w) in
    (inner, ap level_within same.kind ∙ is, subst (λ (x : List ℕ). HasEarlyFault inner x f) (sym same.content) v)

-- no record was read
pub early_first : (level : Around) (bytes rest : List ℕ) (nodes : Trees) (f : TlvFault)
    → IsFront level bytes nodes rest → HasEarlyFault level bytes f → rest ≡ bytes
early_first level bytes rest none f p w = sym (p.2 ∙ ap (λ x. x ++ rest) p.1)
early_first level bytes rest (more t ts) f p w =
    let n = p.1 in
    let at : bytes ≡ n.2 ++ (n.3 ++ (n.4 ++ rest)) =
    p.2 ∙ ap (λ x. x ++ rest) n.6 ∙ append_assoc n.2 (n.3 ++ n.4) rest
    ∙ ap (λ x. n.2 ++ x) (append_assoc n.3 n.4 rest) in
    let v = early_inside level bytes f n.0 n.1 n.2 n.3 (n.4 ++ rest) w n.5 at n.7 in
    let held = inner_nodes t n.0 n.1 n.3 v.0 n.8 v.1 in
    absurd (not_both v.0 n.3 f (early_is_fault v.0 n.3 f v.2) held.0 held.1)

whole_front : (level : Around) (bytes rest : List ℕ) (nodes : Trees) → IsFront level bytes nodes rest → length rest ≡ 0
    → IsNodes nodes level bytes
whole_front level bytes [] nodes p end =
    subst (λ (x : List ℕ). IsNodes nodes level x) (sym (p.2 ∙ append-nil p.0)) p.1
whole_front level bytes (b ∷ rest) nodes p end = absurd (omega (arith, end))

-- bytes that were read to their end have no such fault
pub early_ends : (level : Around) (bytes rest : List ℕ) (nodes : Trees) (f : TlvFault)
    → IsFront level bytes nodes rest → length rest ≡ 0 → HasEarlyFault level bytes f → ⊥
early_ends level bytes rest nodes f p end w =
    not_both level bytes f (early_is_fault level bytes f w) nodes (whole_front level bytes rest nodes p end)
