-- A reader's walk over records: what is read so far grows by one, and where it ends in a fault.
use Rattle.std.proofs.Common.{◌≡◌, ℕ, ◌<◌, List, [], ◌∷◌, ◌++◌, length, true, false, Some, refl, sym, ap, subst, ◌∙◌}
use mathlib.Core.List.{append_assoc, append-nil}
use Rattle.lwm2m_values.specs.declared.node.Node.{Node}
use Rattle.lwm2m_values.specs.declared.fault.TlvFault.{TlvFault}
use Rattle.lwm2m_values.specs.declared.fault.TlvFault.TheVariants.{Cut, Nesting}
use Rattle.lwm2m_values.specs.declared.level.RecordType.{RecordType}
use Rattle.lwm2m_values.specs.declared.level.Around.{Around}
use Rattle.lwm2m_values.specs.Tree.{Trees, tree_of, trees_of}
use Rattle.lwm2m_values.specs.Tlv.{IsHead, IsCut, IsNodes, IsFront, Holds, HasFault, is_allowed, level_within, cut}
use Rattle.lwm2m_values.specs.Tlv.{nesting, within}

-- one more record after those that were read
IsNodes-push : (nodes : List Node) (node : Node) (level : Around) (front head content : List ℕ) (kind : RecordType)
    (id : ℕ) → IsNodes (trees_of nodes) level front → IsHead head kind id (length content)
    → is_allowed level kind ≡ true → Holds (tree_of node) kind id content
    → IsNodes (trees_of (nodes ++ node ∷ [])) level (front ++ (head ++ content))
IsNodes-push [] node level front head content kind id p is_head allowed holds =
    let bytes : front ++ (head ++ content) ≡ head ++ (content ++ []) =
    ap (λ x. x ++ (head ++ content)) p ∙ ap (λ x. head ++ x) (sym (append-nil content)) in
    (kind, id, head, content, [], is_head, bytes, allowed, holds, refl)
IsNodes-push (n ∷ nodes) node level front head content kind id p is_head allowed holds =
    let later = IsNodes-push nodes node level p.4 head content kind id p.9 is_head allowed holds in
    let bytes : front ++ (head ++ content) ≡ p.2 ++ (p.3 ++ (p.4 ++ (head ++ content))) =
    ap (λ x. x ++ (head ++ content)) p.6 ∙ append_assoc p.2 (p.3 ++ p.4) (head ++ content)
    ∙ ap (λ x. p.2 ++ x) (append_assoc p.3 p.4 (head ++ content)) in
    (p.0, p.1, p.2, p.3, p.4 ++ (head ++ content), p.5, bytes, p.7, p.8, later)

pub front_grows : (nodes : List Node) (node : Node) (level : Around) (bytes at head content rest : List ℕ)
    (kind : RecordType) (id : ℕ) → IsFront level bytes (trees_of nodes) at → IsHead head kind id (length content)
    → at ≡ head ++ (content ++ rest) → is_allowed level kind ≡ true → Holds (tree_of node) kind id content
    → IsFront level bytes (trees_of (nodes ++ node ∷ [])) rest
front_grows nodes node level bytes at head content rest kind id p is_head at_is allowed holds = (
  p.0 ++ (head ++ content),
  IsNodes-push nodes node level p.0 head content kind id p.1 is_head allowed holds,
  p.2 ∙ ap (λ x. p.0 ++ x) (at_is ∙ sym (append_assoc head content rest))
      ∙ sym (append_assoc p.0 (head ++ content) rest),
)

pub cut_here : (level : Around) (bytes : List ℕ) (nodes : Trees) (rest : List ℕ) → IsFront level bytes nodes rest
    → 0 < length rest → IsCut rest → HasFault level bytes Cut
cut_here = cut

front_at : (level : Around) (bytes at here : List ℕ) (nodes : Trees) → IsFront level bytes nodes at → at ≡ here
    → IsFront level bytes nodes here
front_at level bytes at here nodes p e = subst (IsFront level bytes nodes) e p

pub nesting_here : (level : Around) (bytes at : List ℕ) (nodes : Trees) (kind : RecordType) (id : ℕ)
    (head content rest : List ℕ) → IsFront level bytes nodes at → IsHead head kind id (length content)
    → at ≡ head ++ (content ++ rest) → is_allowed level kind ≡ false → HasFault level bytes Nesting
nesting_here level bytes at nodes kind id head content rest p is_head e allowed =
    nesting level bytes nodes kind id head content rest (front_at level bytes at _ nodes p e) is_head allowed

pub within_here : (level : Around) (bytes at : List ℕ) (nodes : Trees) (kind : RecordType) (id : ℕ)
    (head content rest : List ℕ) (fault : TlvFault) → IsFront level bytes nodes at
    → IsHead head kind id (length content) → at ≡ head ++ (content ++ rest) → is_allowed level kind ≡ true
    → (inner : Around) × (level_within kind ≡ Some inner) × HasFault inner content fault → HasFault level bytes fault
within_here level bytes at nodes kind id head content rest fault p is_head e allowed w =
    within level w.0 bytes nodes kind id head content rest fault
    (front_at level bytes at _ nodes p e) is_head allowed w.1 w.2
