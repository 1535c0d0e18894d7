-- A catalog stays in order as it grows.
use Rattle.std.proofs.Common.{◌≡◌, ℕ, zero, suc, ◌+◌, ◌<◌, Bool, true, false, cond, eqb, ltb, List, [], ◌∷◌, map}
use Rattle.std.proofs.Common.{length, get_or, None, Some, refl, sym, ap, subst, ◌∙◌, arith}
use Rattle.std.specs.List.{find, list_all}
use Rattle.std.specs.List.Sorted.{IsStrictlyIncreasing}
use Rattle.std.specs.Option.{option_and_then}
use Rattle.std.proofs.lemmas.List.Sums.{AllPass-from_list_all}
use Rattle.std.proofs.lemmas.Bool.Decides.{nat_tests}
use Rattle.std.proofs.lemmas.Bool.{and_parts, and_from}
use Rattle.lemmas.proofs.Numbers.{above_from_tests}
use Rattle.object_defs.specs.declared.definition.ResourceDef.{ResourceDef}
use Rattle.object_defs.specs.declared.definition.ObjectDef.{ObjectDef}
use Rattle.object_defs.specs.Base.{base}
use Rattle.object_defs.specs.Catalog.{object_of, resource_in, definition_of}
use Rattle.object_defs.specs.Order.{is_below, ascends, is_in_order, IsInOrder}
use Rattle.object_defs.specs.Vendor.{with_inserted, vendor_fault, resource_fault, with_definition, with_object}
use Rattle.object_defs.specs.Vendor.{with_resource, new_object}
use Rattle.object_defs.proofs.LookUps.{skipped, object_absent, resource_absent}

rises : (n : ℕ) (ns : List ℕ) → is_below n ns ≡ true → ascends ns ≡ true → (k : ℕ) → k + 1 < length (n ∷ ns)
    → get_or (n ∷ ns) k 0 < get_or (n ∷ ns) (k + 1) 0
rises n [] h a k short = absurd (omega arith)
rises n (m ∷ ms) h a zero short = grind (arith, nat_tests)
rises n (m ∷ ms) h a (suc k) short =
    let e : suc k + 1 ≡ suc (k + 1) = omega arith in
    let parts = and_parts (is_below m ms) (ascends ms) a in
    subst (λ j. get_or (m ∷ ms) k 0 < get_or (n ∷ m ∷ ms) j 0) (sym e) (rises m ms parts.0 parts.1 k (omega arith))

pub ascends-increasing : (ns : List ℕ) → ascends ns ≡ true → IsStrictlyIncreasing ns
ascends-increasing [] h = λ k short. absurd (omega arith)
ascends-increasing (n ∷ ns) h = let parts =
    and_parts (is_below n ns) (ascends ns) h in λ k short. rises n ns parts.0 parts.1 k short

pub in_order : (c : List ObjectDef) → is_in_order c ≡ true → IsInOrder c
in_order c h =
    let parts = and_parts (ascends (map (λ o. o.id) c)) (list_all (λ o. ascends (map (λ r. r.id) o.resources)) c) h in
    record {
      objects = ascends-increasing (map (λ o. o.id) c) parts.0;
      resources = λ k d short. ascends-increasing (map (λ r. r.id) (get_or c k d).resources)
          (AllPass-from_list_all (λ o. ascends (map (λ r. r.id) o.resources)) c parts.1 k d short);
    }

pub base_in_order : is_in_order base ≡ true
base_in_order = refl

below-with_inserted : {X : Type 0} (number : X → ℕ) (x : X) (n : ℕ) (ys : List X) → n < number x
    → is_below n (map number ys) ≡ true → is_below n (map number (with_inserted number x ys)) ≡ true
below-with_inserted number x n [] h k = grind (arith, nat_tests)
below-with_inserted number x n (y ∷ ys) h k =
    let first : ltb n (number x) ≡ true = grind (arith, nat_tests) in
    elim (ltb (number x) (number y)) as (λ b. is_below n
    (map number (cond b (x ∷ y ∷ ys) (y ∷ with_inserted number x ys)))
    ≡ true) [ true ↦ first | false ↦ k ]

placed_at : {X : Type 0} (number : X → ℕ) (x y : X) (ys rest : List X) (b : Bool) → ltb (number x) (number y) ≡ b
    → ascends (map number (y ∷ ys)) ≡ true → (b ≡ false → ascends (map number (y ∷ rest)) ≡ true)
    → ascends (map number (cond b (x ∷ y ∷ ys) (y ∷ rest))) ≡ true
placed_at number x y ys rest true e a h = and_from _ _ e a
placed_at number x y ys rest false e a h = h refl

pub ascends-with_inserted : {X : Type 0} (number : X → ℕ) (x : X) (xs : List X) → ascends (map number xs) ≡ true
    → find (λ y. eqb (number y) (number x)) xs ≡ None → ascends (map number (with_inserted number x xs)) ≡ true
ascends-with_inserted number x [] a absent = refl
ascends-with_inserted number x (y ∷ ys) a absent =
    let parts = and_parts (is_below (number y) (map number ys)) (ascends (map number ys)) a in
    let later = skipped (eqb (number y) (number x)) y (find (λ y. eqb (number y) (number x)) ys) absent in
    placed_at number x y ys (with_inserted number x ys) (ltb (number x) (number y)) refl a (λ e.
    and_from _ _ (below-with_inserted number x (number y) ys (above_from_tests (number x) (number y) e later.0) parts.0)
    (ascends-with_inserted number x ys parts.1 later.1))

all-with_inserted : {X : Type 0} (number : X → ℕ) (test : X → Bool) (x : X) (xs : List X) → test x ≡ true
    → list_all test xs ≡ true → list_all test (with_inserted number x xs) ≡ true
all-with_inserted number test x [] h a = and_from _ _ h refl
all-with_inserted number test x (y ∷ ys) h a =
    let parts = and_parts (test y) (list_all test ys) a in
    elim (ltb (number x) (number y)) as (λ b. list_all test (cond b (x ∷ y ∷ ys) (y ∷ with_inserted number x ys))
    ≡ true) [
      | true ↦ and_from _ _ h a
      | false ↦ and_from _ _ parts.0 (all-with_inserted number test x ys h parts.1)
    ]

pub in_order-with_object : (c : List ObjectDef) (id : ℕ) → vendor_fault c id ≡ None → is_in_order c ≡ true
    → is_in_order (with_object c id) ≡ true
in_order-with_object c id h a =
    let parts = and_parts (ascends (map (λ o. o.id) c)) (list_all (λ o. ascends (map (λ r. r.id) o.resources)) c) a in
    and_from _ _ (ascends-with_inserted (λ o. o.id) (new_object id) c parts.0 (object_absent c id h))
    (all-with_inserted (λ o. o.id) (λ o. ascends (map (λ r. r.id) o.resources)) (new_object id) c refl parts.1)

same_numbers : (c : List ObjectDef) (id : ℕ) (d : ResourceDef)
    → map (λ o. o.id) (with_resource c id d) ≡ map (λ o. o.id) c
same_numbers [] id d = refl
same_numbers (o ∷ os) id d =
    elim (eqb o.id id) as (λ b. map (λ o. o.id) (cond b (with_definition o d ∷ os) (o ∷ with_resource os id d))
    ≡ o.id ∷ map (λ o. o.id) os) [
      | true ↦ refl
      | false ↦ ap (λ t. o.id ∷ t) (same_numbers os id d)
    ]

all-with_resource : (c : List ObjectDef) (id : ℕ) (d : ResourceDef) → definition_of c id d.id ≡ None
    → list_all (λ o. ascends (map (λ r. r.id) o.resources)) c ≡ true
    → list_all (λ o. ascends (map (λ r. r.id) o.resources)) (with_resource c id d) ≡ true
all-with_resource [] id d absent a = refl
all-with_resource (o ∷ os) id d absent a =
    let test = λ (p : ObjectDef). ascends (map (λ r. r.id) p.resources) in
    let parts = and_parts (test o) (list_all test os) a in
    elim (eqb o.id id) as (λ b. option_and_then (λ p. resource_in p.resources d.id) (cond b (Some o) (object_of os id))
    ≡ None → list_all (λ o. ascends (map (λ r. r.id) o.resources))
    (cond b (with_definition o d ∷ os) (o ∷ with_resource os id d)) ≡ true) [
      | true ↦ λ k. and_from _ _ (ascends-with_inserted (λ r. r.id) d o.resources parts.0 k) parts.1
      | false ↦ λ k. and_from _ _ parts.0 (all-with_resource os id d k parts.1)
    ] absent

pub in_order-with_resource : (c : List ObjectDef) (id : ℕ) (d : ResourceDef) → resource_fault c id d ≡ None
    → is_in_order c ≡ true → is_in_order (with_resource c id d) ≡ true
in_order-with_resource c id d h a =
    let parts = and_parts (ascends (map (λ o. o.id) c)) (list_all (λ o. ascends (map (λ r. r.id) o.resources)) c) a in
    and_from _ _ (ap ascends (same_numbers c id d) ∙ parts.0)
    (all-with_resource c id d (resource_absent c id d h) parts.1)
