-- The records of values grow at their end as the values do.
use Rattle.std.proofs.Common.{◌≡◌, ℕ, ◌==◌, Bool, true, false, List, [], ◌∷◌, ◌++◌, Option, None, Some, refl, sym, ap}
use Rattle.std.proofs.Common.{◌∙◌, subst, arith, if◌then◌else◌}
use Rattle.std.proofs.lemmas.Bool.Decides.{nat_tests}
use Rattle.lwm2m_values.specs.Value.{bytes_of}
use Rattle.lwm2m_values.specs.declared.node.Node.{Node}
use Rattle.lwm2m_values.specs.declared.value.Value.{Value}
use Rattle.lwm2m_values.specs.Tree.{Tree, Trees, instance, multi, part, single, none, more, tree_of, trees_of}
use Rattle.object_defs.specs.declared.path.FullPath.{FullPath}
use Rattle.lwm2m_payloads.specs.Building.{with_last, part_after, part_behind}
use Rattle.lwm2m_payloads.specs.Nodes.{Pairs, before_part, before_value, nodes_of}

pub trees_of-push : (nodes : List Node) (n : Node) → trees_of (nodes ++ n ∷ []) ≡ with_last (trees_of nodes) (tree_of n)
trees_of-push [] n = refl
trees_of-push (m ∷ nodes) n = ap (more (tree_of m)) (trees_of-push nodes n)

abbrev pub value_behind : ℕ → Option ℕ → Value → Trees → Trees
value_behind r None value nodes = with_last nodes (single r (bytes_of value))
value_behind r (Some n) value nodes = part_behind r (part n (bytes_of value)) nodes

-- a record before others that is no Multiple Resource
behind_other : (r : ℕ) (n : Option ℕ) (v : Value) (q : ℕ) (bytes : List ℕ) (nodes : Trees)
    → more (single q bytes) (value_behind r n v nodes) ≡ value_behind r n v (more (single q bytes) nodes)
behind_other r None v q bytes nodes = refl
behind_other r (Some n) v q bytes none = refl
behind_other r (Some n) v q bytes (more t nodes) = refl

single_commutes : (q : ℕ) (a : Tree) (nodes : Trees) (b : List ℕ) (r : ℕ)
    → before_part q a (with_last nodes (single r b)) ≡ with_last (before_part q a nodes) (single r b)
single_commutes q a none b r = refl
single_commutes q a (more (instance i inner) nodes) b r = refl
single_commutes q a (more (part n bytes) nodes) b r = refl
single_commutes q a (more (single i bytes) nodes) b r = refl
single_commutes q a (more (multi i parts) nodes) b r =
    elim (i == q) as (λ t. (if t then more (multi q (more a parts)) (with_last nodes (single r b))
    else more (multi q (more a none)) (more (multi i parts) (with_last nodes (single r b))))
    ≡ with_last (if t then more (multi q (more a parts)) nodes
    else more (multi q (more a none)) (more (multi i parts) nodes)) (single r b))
    [ true ↦ refl | false ↦ refl ]

-- a part before a Multiple Resource of its own resource that is the last record
part_joins : (q : ℕ) (a : Tree) (r : ℕ) (p : Tree) (parts : Trees)
    → before_part q a (part_after r p (multi q parts)) ≡ part_after r p (multi q (more a parts))
part_joins q a r p parts =
    let same : (q == q) ≡ true = grind (arith, nat_tests) in
    elim (r == q) as (λ t. before_part q a (if t then more (multi q (with_last parts p)) none
    else more (multi q parts) (more (multi r (more p none)) none))
    ≡ (if t then more (multi q (more a (with_last parts p))) none
    else more (multi q (more a parts)) (more (multi r (more p none)) none))) [
      | true ↦ rw same refl
      | false ↦ rw same refl
    ]

-- and before one of another resource
part_stays : (q : ℕ) (a : Tree) (r : ℕ) (p : Tree) (i : ℕ) (parts : Trees) → (i == q) ≡ false
    → before_part q a (part_after r p (multi i parts)) ≡ more (multi q (more a none)) (part_after r p (multi i parts))
part_stays q a r p i parts e =
    elim (r == i) as (λ t. before_part q a (if t then more (multi i (with_last parts p)) none
    else more (multi i parts) (more (multi r (more p none)) none))
    ≡ more (multi q (more a none)) (if t then more (multi i (with_last parts p)) none
    else more (multi i parts) (more (multi r (more p none)) none))) [
      | true ↦ rw e refl
      | false ↦ rw e refl
    ]

part_at_last : (q : ℕ) (a : Tree) (r : ℕ) (p : Tree) (i : ℕ) (parts : Trees) (b : Bool) → (i == q) ≡ b
    → before_part q a (part_after r p (multi i parts))
    ≡ part_behind r p (if b then more (multi q (more a parts)) none
    else more (multi q (more a none)) (more (multi i parts) none))
part_at_last q a r p i parts true e =
    let is : q ≡ i = grind (arith, nat_tests) in
    subst (λ k. before_part q a (part_after r p (multi k parts)) ≡ part_after r p (multi q (more a parts))) is
    (part_joins q a r p parts)
part_at_last q a r p i parts false e = part_stays q a r p i parts e

part_commutes : (q : ℕ) (a : Tree) (r : ℕ) (p : Tree) (nodes : Trees)
    → before_part q a (part_behind r p nodes) ≡ part_behind r p (before_part q a nodes)
part_commutes q a r p none =
    elim (r == q) as (λ b. (if b then more (multi q (more a (more p none))) none
    else more (multi q (more a none)) (more (multi r (more p none)) none))
    ≡ (if b then more (multi q (more a (more p none))) none
    else more (multi q (more a none)) (more (multi r (more p none)) none))) [ true ↦ refl | false ↦ refl ]
part_commutes q a r p (more (instance i inner) none) = refl
part_commutes q a r p (more (instance i inner) (more t nodes)) = refl
part_commutes q a r p (more (part n bytes) none) = refl
part_commutes q a r p (more (part n bytes) (more t nodes)) = refl
part_commutes q a r p (more (single i bytes) none) = refl
part_commutes q a r p (more (single i bytes) (more t nodes)) = refl
part_commutes q a r p (more (multi i parts) none) = part_at_last q a r p i parts (i == q) refl
part_commutes q a r p (more (multi i parts) (more t nodes)) =
    elim (i == q) as (λ b. (if b then more (multi q (more a parts)) (part_behind r p (more t nodes))
    else more (multi q (more a none)) (more (multi i parts) (part_behind r p (more t nodes))))
    ≡ part_behind r p (if b then more (multi q (more a parts)) (more t nodes)
    else more (multi q (more a none)) (more (multi i parts) (more t nodes)))) [ true ↦ refl | false ↦ refl ]

-- a value before others commutes with one after them
commutes : (q : ℕ) (m : Option ℕ) (w : Value) (r : ℕ) (n : Option ℕ) (v : Value) (nodes : Trees)
    → before_value q m w (value_behind r n v nodes) ≡ value_behind r n v (before_value q m w nodes)
commutes q None w r n v nodes = behind_other r n v q (bytes_of w) nodes
commutes q (Some m) w r None v nodes = single_commutes q (part m (bytes_of w)) nodes (bytes_of v) r
commutes q (Some m) w r (Some n) v nodes = part_commutes q (part m (bytes_of w)) r (part n (bytes_of v)) nodes

first_value : (r : ℕ) (n : Option ℕ) (v : Value) → before_value r n v none ≡ value_behind r n v none
first_value r None v = refl
first_value r (Some n) v = refl

-- one value more is one value's record more
pub nodes_of-push : (es : Pairs) (p : FullPath) (v : Value)
    → nodes_of (es ++ (p, v) ∷ []) ≡ value_behind p.resource p.part v (nodes_of es)
nodes_of-push [] p v = first_value p.resource p.part v
nodes_of-push (e ∷ es) p v =
    ap (before_value e.0.resource e.0.part e.1) (nodes_of-push es p v)
    ∙ commutes e.0.resource e.0.part e.1 p.resource p.part v (nodes_of es)

behind_last : (r : ℕ) (p s t : Tree) (nodes : Trees)
    → part_behind r p (more s (with_last nodes t)) ≡ more s (part_behind r p (with_last nodes t))
behind_last r p s t none = refl
behind_last r p s t (more u nodes) = refl

multi_after : (r : ℕ) (p : Tree) (parts : Trees)
    → part_after r p (multi r parts) ≡ more (multi r (with_last parts p)) none
multi_after r p parts = let same : (r == r) ≡ true = grind (arith, nat_tests) in rw same refl

-- a part after records whose last one is the Multiple Resource of its resource
pub part_taken : (nodes : Trees) (last : Tree) (r : ℕ) (p : Tree) (parts : Trees) → last ≡ multi r parts
    → with_last nodes (multi r (with_last parts p)) ≡ part_behind r p (with_last nodes last)
part_taken none last r p parts e = sym (ap (part_after r p) e ∙ multi_after r p parts)
part_taken (more s nodes) last r p parts e =
    ap (more s) (part_taken nodes last r p parts e) ∙ sym (behind_last r p s last nodes)

-- and whose last one is another
pub part_apart : (nodes : Trees) (last : Tree) (r : ℕ) (p : Tree)
    → part_after r p last ≡ more last (more (multi r (more p none)) none)
    → with_last (with_last nodes last) (multi r (more p none)) ≡ part_behind r p (with_last nodes last)
part_apart none last r p e = sym e
part_apart (more s nodes) last r p e = ap (more s) (part_apart nodes last r p e) ∙ sym (behind_last r p s last nodes)
