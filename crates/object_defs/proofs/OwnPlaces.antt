-- What stands at a place of a list by ascending number is what a search for its number finds.
use Rattle.std.proofs.Common.{◌≡◌, ℕ, zero, suc, ◌<◌, true, false, cond, eqb, ltb, List, [], ◌∷◌, Some}
use Rattle.std.proofs.Common.{map, length, get_or, sym, ap, ◌∙◌, arith}
use Rattle.std.specs.List.{find, slice_get, list_all}
use Rattle.std.specs.Option.{option_and_then}
use Rattle.std.proofs.lemmas.Bool.{and_parts, ltb-true}
use Rattle.std.proofs.lemmas.Bool.Decides.{nat_tests}
use Rattle.object_defs.specs.declared.definition.ResourceDef.{ResourceDef}
use Rattle.object_defs.specs.declared.definition.ObjectDef.{ObjectDef}
use Rattle.object_defs.specs.Catalog.{object_of, resource_in, definition_of}
use Rattle.object_defs.specs.Order.{is_below, ascends, is_in_order}
use Rattle.object_defs.proofs.Inserting.{stands}

-- what is below the first of a list by ascending number is below each of it
below_each : {X : Type 0} (number : X → ℕ) (n : ℕ) (xs : List X) (i : ℕ) (x : X) → is_below n (map number xs) ≡ true
    → ascends (map number xs) ≡ true → slice_get xs i ≡ Some x → n < number x
below_each number n [] i x below a h = let f : ⊥ = cc in absurd f
below_each number n (y ∷ ys) zero x below a h = let e : y ≡ x = cc in grind (arith, nat_tests)
below_each number n (y ∷ ys) (suc i) x below a h =
    let parts = and_parts (is_below (number y) (map number ys)) (ascends (map number ys)) a in
    let later = below_each number (number y) ys i x parts.0 parts.1 h in
    grind (arith, nat_tests)

pub found_by_place : {X : Type 0} (number : X → ℕ) (n : ℕ) (xs : List X) (i : ℕ) (x : X)
    → ascends (map number xs) ≡ true → slice_get xs i ≡ Some x → number x ≡ n → find (λ y. eqb (number y) n) xs ≡ Some x
found_by_place number n [] i x a h is = let f : ⊥ = cc in absurd f
found_by_place number n (y ∷ ys) zero x a h is =
    let e : y ≡ x = cc in
    let t : eqb (number y) n ≡ true = grind (arith, nat_tests) in
    ap (λ b. cond b (Some y) (find (λ y. eqb (number y) n) ys)) t ∙ ap Some e
found_by_place number n (y ∷ ys) (suc i) x a h is =
    let parts = and_parts (is_below (number y) (map number ys)) (ascends (map number ys)) a in
    let above = below_each number (number y) ys i x parts.0 parts.1 h in
    let t : eqb (number y) n ≡ false = grind (arith, nat_tests) in
    ap (λ b. cond b (Some y) (find (λ y. eqb (number y) n) ys)) t ∙ found_by_place number n ys i x parts.1 h is

-- the object at a place of a catalog
pub object_by_place : (c : List ObjectDef) (id i : ℕ) (o : ObjectDef) → is_in_order c ≡ true → slice_get c i ≡ Some o
    → o.id ≡ id → Some o ≡ object_of c id
object_by_place c id i o a h is =
    let parts = and_parts (ascends (map (λ o. o.id) c)) (list_all (λ o. ascends (map (λ r. r.id) o.resources)) c) a in
    sym (found_by_place (λ o. o.id) id c i o parts.0 h is)

resources_ascend : (c : List ObjectDef) (id : ℕ) (o : ObjectDef)
    → list_all (λ o. ascends (map (λ r. r.id) o.resources)) c ≡ true → object_of c id ≡ Some o
    → ascends (map (λ r. r.id) o.resources) ≡ true
resources_ascend [] id o a h = let f : ⊥ = cc in absurd f
resources_ascend (p ∷ os) id o a h =
    let test = λ (p : ObjectDef). ascends (map (λ r. r.id) p.resources) in
    let parts = and_parts (test p) (list_all test os) a in
    elim (eqb p.id id) as (λ b. cond b (Some p) (object_of os id) ≡ Some o
    → ascends (map (λ r. r.id) o.resources) ≡ true) [
      | true ↦ λ (k : Some p ≡ Some o). let e : p ≡ o = cc in ap (λ q. ascends (map (λ r. r.id) q.resources)) (sym e)
          ∙ parts.0
      | false ↦ λ k. resources_ascend os id o parts.1 k
    ] h

-- the resource at a place of an object of a catalog
pub resource_by_place : (c : List ObjectDef) (object id i : ℕ) (o : ObjectDef) (r : ResourceDef) → is_in_order c ≡ true
    → Some o ≡ object_of c object → slice_get o.resources i ≡ Some r → r.id ≡ id → Some r ≡ definition_of c object id
resource_by_place c object id i o r a found h is =
    let parts = and_parts (ascends (map (λ o. o.id) c)) (list_all (λ o. ascends (map (λ r. r.id) o.resources)) c) a in
    let ascending = resources_ascend c object o parts.1 (sym found) in
    sym (found_by_place (λ r. r.id) id o.resources i r ascending h is)
    ∙ ap (option_and_then (λ p. resource_in p.resources id)) found

-- what a look-up by index gave stands there in an equal list
pub looked_up : {X : Type 0} (xs ys : List X) (i : ℕ) (x : X) → xs ≡ ys → true ≡ ltb i (length xs) → x ≡ get_or xs i x
    → slice_get ys i ≡ Some x
looked_up xs ys i x same within h = stands xs ys i x same (omega (arith, ap length same, ltb-true _ _ (sym within))) h
