-- What a store has at a full path after a change of one resource.
use Rattle.std.proofs.Common.{◌≡◌, ℕ, ◌==◌, Bool, true, false, cond, not, ◌&&◌, Option, None, Some, refl, sym}
use Rattle.std.proofs.Common.{ap, ◌∙◌, arith, if◌then◌else◌}
use Rattle.std.specs.Option.{is_some}
use Rattle.std.specs.Ordering.{eq_by_cmp}
use Rattle.std.specs.Cmp.{eq_by_cmp_equiv}
use Rattle.std.specs.FinMap as map
use Rattle.std.proofs.lemmas.Bool.Decides.{nat_tests}
use Rattle.std.proofs.lemmas.Bool.{and_parts, and_from}
use Rattle.lemmas.proofs.Orders.{is_equal}
use Rattle.lwm2m_values.specs.declared.value.Value.{Value}
use Rattle.object_defs.specs.Path.{single_of, part_of, path_cmp}
use Rattle.object_defs.specs.declared.path.Path.{Path}
use Rattle.object_defs.specs.declared.path.FullPath.{FullPath}
use Rattle.object_defs.specs.declared.path.ResourcePath.{ResourcePath}
use Rattle.object_defs.proofs.MapLaws.{get_kept}
use Rattle.object_defs.proofs.PathOrder.{path_total, path_exact}
use Rattle.instance_store.specs.Stored.{Stored, value_at, with_value, without_values, resource_path, lies_in, is_part}

same_bool : (a b : Bool) → (a ≡ true → b ≡ true) → (b ≡ true → a ≡ true) → a ≡ b
same_bool true true f g = refl
same_bool true false f g = sym (f refl)
same_bool false true f g = g refl
same_bool false false f g = refl

-- a full path with this place among the values of its resource
abbrev pub at_number : ResourcePath → Option ℕ → FullPath
at_number p n = record { object = p.object; instance = p.instance; resource = p.resource; part = n }

pub same_path : (q : FullPath) (p : ResourcePath) (n : Option ℕ) → lies_in (resource_path p) q ≡ true → q.part ≡ n
    → q ≡ at_number p n
same_path q p n h part =
    let object : q.object ≡ p.object = grind (arith, nat_tests) in
    let inst : q.instance ≡ p.instance = grind (arith, nat_tests) in
    let res : q.resource ≡ p.resource = grind (arith, nat_tests) in
    λ i. record { object = object i; instance = inst i; resource = res i; part = part i }

equal_path : (q p : FullPath) → eq_by_cmp path_cmp q p ≡ true → q ≡ p
equal_path q p h = path_exact q p (is_equal _ h)

pub lies_own : (p : ResourcePath) (n : Option ℕ) → lies_in (resource_path p) (at_number p n) ≡ true
lies_own p n =
    let a : (p.object == p.object) ≡ true = grind (arith, nat_tests) in
    let b : (p.instance == p.instance) ≡ true = grind (arith, nat_tests) in
    let c : (p.resource == p.resource) ≡ true = grind (arith, nat_tests) in
    rw (a, b, c) refl

-- one value is set
pub at_value : (stored : Stored) (p q : FullPath) (v : Value)
    → value_at (with_value stored p v) q ≡ (if eq_by_cmp path_cmp q p then Some v else value_at stored q)
at_value stored p q v = map.get-insert path_total stored.values p v q

-- the values at or below a path are gone
pub at_without : (stored : Stored) (place : Path) (q : FullPath)
    → value_at (without_values stored place) q ≡ (if lies_in place q then None else value_at stored q)
at_without stored place q =
    get_kept path_total path_exact stored.values (λ k. not (lies_in place k)) q
    ∙ (elim (lies_in place q) as (λ b. cond (not b) (value_at stored q) None ≡ (if b then None else value_at stored q))
    [ true ↦ refl | false ↦ refl ])

is_part_some : (m : ℕ) (o : Option ℕ) → is_part m o ≡ true → o ≡ Some m
is_part_some m None h = absurd cc
is_part_some m (Some n) h = let e : n ≡ m = grind (arith, nat_tests) in ap Some e

not_some : (o : Option ℕ) → not (is_some o) ≡ true → o ≡ None
not_some None h = refl
not_some (Some n) h = absurd cc

own_part : (p : ResourcePath) (m : ℕ) → (lies_in (resource_path p) (part_of p m) && is_part m (Some m)) ≡ true
own_part p m = let e : (m == m) ≡ true = grind (arith, nat_tests) in and_from _ _ (lies_own p (Some m)) e

pub is_at_part : (q : FullPath) (p : ResourcePath) (m : ℕ)
    → eq_by_cmp path_cmp q (part_of p m) ≡ (lies_in (resource_path p) q && is_part m q.part)
is_at_part q p m =
    same_bool _ _ (λ h. ap (λ k. lies_in (resource_path p) k && is_part m k.part) (equal_path q (part_of p m) h)
    ∙ own_part p m)
    (λ h.
    let t = and_parts (lies_in (resource_path p) q) (is_part m q.part) h in
    ap (λ k. eq_by_cmp path_cmp k (part_of p m)) (same_path q p (Some m) t.0 (is_part_some m q.part t.1))
    ∙ (eq_by_cmp_equiv path_total).refl (part_of p m))

is_at_single : (q : FullPath) (p : ResourcePath)
    → eq_by_cmp path_cmp q (single_of p) ≡ (lies_in (resource_path p) q && not (is_some q.part))
is_at_single q p =
    same_bool _ _ (λ h. ap (λ k. lies_in (resource_path p) k && not (is_some k.part)) (equal_path q (single_of p) h)
    ∙ and_from _ _ (lies_own p None) refl)
    (λ h.
    let t = and_parts (lies_in (resource_path p) q) (not (is_some q.part)) h in
    ap (λ k. eq_by_cmp path_cmp k (single_of p)) (same_path q p None t.0 (not_some q.part t.1))
    ∙ (eq_by_cmp_equiv path_total).refl (single_of p))

-- a part is set, and a single value
pub at_part : (stored : Stored) (p : ResourcePath) (m : ℕ) (v : Value) (q : FullPath)
    → value_at (with_value stored (part_of p m) v) q
    ≡ (if lies_in (resource_path p) q && is_part m q.part then Some v else value_at stored q)
at_part stored p m v q =
    at_value stored (part_of p m) q v ∙ ap (λ b. if b then Some v else value_at stored q) (is_at_part q p m)

pub at_single : (stored : Stored) (p : ResourcePath) (v : Value) (q : FullPath)
    → value_at (with_value stored (single_of p) v) q
    ≡ (if lies_in (resource_path p) q && not (is_some q.part) then Some v else value_at stored q)
at_single stored p v q =
    at_value stored (single_of p) q v ∙ ap (λ b. if b then Some v else value_at stored q) (is_at_single q p)
