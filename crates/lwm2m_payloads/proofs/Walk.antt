-- A walk over records from the front: what is taken so far, before what is left, is the whole.
use Rattle.std.proofs.Common.{◌≡◌, ℕ, ◌+◌, ◌-◌, ◌≤◌, ◌==◌, Bool, false, List, [], ◌∷◌, ◌++◌, length, get_or}
use Rattle.std.proofs.Common.{take, drop, Result, Ok, Err, refl, sym, ap, ◌∙◌, arith, append_assoc}
use Rattle.std.specs.List.{list_any}
use Rattle.std.proofs.lemmas.Bool.Decides.{nat_tests}
use Rattle.std.proofs.lemmas.Bool.{or_parts, or_from}
use Rattle.std.proofs.lemmas.List.{append-nil, length-drop, take_rest}
use Rattle.std.proofs.lemmas.List.Folds.{list_any-append}
use Rattle.lwm2m_values.specs.declared.node.Node.{Node}
use Rattle.lwm2m_values.specs.Tree.{Tree, Trees, none, more, tree_of, trees_of}
use Rattle.lwm2m_payloads.specs.Given.{before, has_number, number_in}
use Rattle.lwm2m_payloads.specs.Results.{result_map}
use Rattle.lwm2m_payloads.specs.declared.given.Assignment.{Assignment}

-- elements before others
abbrev pub joined : {A E : Type 0} → List A → Result (List A) E → Result (List A) E
joined xs others = result_map (λ ys. xs ++ ys) others

pub joined_none : {A E : Type 0} (others : Result (List A) E) → joined [] others ≡ others
joined_none (Ok ys) = refl
joined_none (Err e) = refl

pub joined_more : {A E : Type 0} (xs : List A) (a : A) (others : Result (List A) E)
    → joined xs (before (Ok a) others) ≡ joined (xs ++ a ∷ []) others
joined_more xs a (Ok ys) = ap Ok (sym (append_assoc xs (a ∷ []) ys))
joined_more xs a (Err e) = refl

pub joined_all : {A E : Type 0} (xs : List A) → joined {A = A} {E = E} xs (Ok []) ≡ Ok xs
joined_all xs = ap Ok (append-nil xs)

-- one element is taken
pub goes_on : {A E : Type 0} (xs ys : List A) (a : A) (first : Result A E) (left others whole : Result (List A) E)
    → joined xs left ≡ whole → left ≡ before first others → Ok a ≡ first → ys ≡ xs ++ a ∷ []
    → joined ys others ≡ whole
goes_on xs ys a first left others whole told is ok grown =
    ap (λ t. joined t others) grown ∙ sym (joined_more xs a others)
    ∙ ap (λ t. joined xs (before t others)) ok ∙ ap (joined xs) (sym is) ∙ told

-- or it is at fault
pub stops : {A E : Type 0} (xs : List A) (e : E) (first : Result A E) (left others whole : Result (List A) E)
    → joined xs left ≡ whole → left ≡ before first others → Err e ≡ first → Err e ≡ whole
stops xs e first left others whole told is err =
    ap (λ t. joined xs (before t others)) err ∙ ap (joined xs) (sym is) ∙ told

-- or nothing is left
pub ends : {A E : Type 0} (xs : List A) (left whole : Result (List A) E)
    → joined xs left ≡ whole → left ≡ Ok [] → Ok xs ≡ whole
ends xs left whole told is = sym (joined_all xs) ∙ ap (joined xs) (sym is) ∙ told

-- the first of some records, and the others
pub first_is : (rest : List Node) (node : Node) → 1 ≤ length rest → node ≡ get_or rest 0 node
    → trees_of rest ≡ more (tree_of node) (trees_of (take (length rest - 1) (drop 1 rest)))
first_is [] node h e = absurd (omega (arith, h))
first_is (n ∷ nodes) node h e =
    ap (λ m. more (tree_of m) (trees_of nodes)) (sym e)
    ∙ ap (λ l. more (tree_of node) (trees_of l)) (sym (take_rest (n ∷ nodes) 1))

pub one_less : (rest : List Node) → 1 ≤ length rest → length (take (length rest - 1) (drop 1 rest)) + 1 ≡ length rest
one_less rest h =
    let count = ap length (take_rest rest 1) ∙ length-drop 1 rest in
    omega (arith, h, count)

-- ---- an instance's records

-- no resource so far has a later record
abbrev pub no_later : Trees → List Assignment → Bool
no_later nodes given = list_any (λ a. has_number a.resource nodes) given

pub none_left : (given : List Assignment) → no_later none given ≡ false
none_left [] = refl
none_left (a ∷ given) = none_left given

-- so a record's resource is not among them
pub is_apart : (given : List Assignment) (node : Tree) (nodes : Trees) (r : ℕ)
    → no_later (more node nodes) given ≡ false
    → r ≡ number_in node → list_any (λ a. a.resource == r) given ≡ false
is_apart [] node nodes r h e = refl
is_apart (a ∷ given) node nodes r h e =
    let t = or_parts (has_number a.resource (more node nodes)) (no_later (more node nodes) given) h in
    let u = or_parts (number_in node == a.resource) (has_number a.resource nodes) t.0 in
    let other : (a.resource == r) ≡ false = grind (arith, nat_tests) in
    or_from _ _ other (is_apart given node nodes r t.1 e)

still_apart : (given : List Assignment) (node : Tree) (nodes : Trees) → no_later (more node nodes) given ≡ false
    → no_later nodes given ≡ false
still_apart [] node nodes h = refl
still_apart (a ∷ given) node nodes h =
    let t = or_parts (has_number a.resource (more node nodes)) (no_later (more node nodes) given) h in
    let u = or_parts (number_in node == a.resource) (has_number a.resource nodes) t.0 in
    or_from _ _ u.1 (still_apart given node nodes t.1)

-- nor is it, with them, that of a later one
pub stays_apart : (given : List Assignment) (a : Assignment) (node : Tree) (nodes : Trees)
    → no_later (more node nodes) given ≡ false → has_number a.resource nodes ≡ false
    → no_later nodes (given ++ a ∷ []) ≡ false
stays_apart given a node nodes h own =
    list_any-append (λ b. has_number b.resource nodes) given (a ∷ [])
    ∙ or_from _ _ (still_apart given node nodes h) (or_from _ _ own refl)
