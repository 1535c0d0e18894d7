-- How a list by ascending number grows by one more.
use Rattle.std.proofs.Common.{◌≡◌, ℕ, suc, ◌+◌, ◌<◌, ◌≤◌, Bool, true, false, cond, not, eqb, ltb, List, [], ◌∷◌, length}
use Rattle.std.proofs.Common.{get_or, Option, None, Some, refl, sym, ap, subst, ◌∙◌, set, arith, position, IfNone}
use Rattle.std.proofs.Common.{IfSome}
use Rattle.std.specs.List.{position_or_len, insert, slice_get, find}
use Rattle.std.specs.Option.{unwrap_or}
use Rattle.std.proofs.lemmas.List.Sums.{prefix_len-le-length}
use Rattle.std.proofs.lemmas.List.Folds.{find_at}
use Rattle.std.proofs.lemmas.Option.{slice_get_past, slice_get_read}
use Rattle.std.proofs.lemmas.Bool.{ltb-false}
use Rattle.std.proofs.lemmas.Bool.Decides.{nat_tests}
use Rattle.object_defs.specs.declared.definition.ResourceDef.{ResourceDef}
use Rattle.object_defs.specs.declared.definition.ObjectDef.{ObjectDef}
use Rattle.object_defs.specs.Vendor.{with_definition, with_inserted, with_resource}

or_end : (n m : ℕ) → n ≤ m → unwrap_or (cond (ltb n m) (Some n) None) m ≡ n
or_end n m h = grind (arith, nat_tests)

-- the first place that passes, or the end
pub place_or_end : {X : Type 0} (p : X → Bool) (xs : List X)
    → unwrap_or (position p xs) (length xs) ≡ position_or_len p xs
place_or_end p xs = or_end (position_or_len p xs) (length xs) (prefix_len-le-length (λ x. not (p x)) xs)

pub place-le-length : {X : Type 0} (p : X → Bool) (xs : List X) → position_or_len p xs ≤ length xs
place-le-length p xs = prefix_len-le-length (λ x. not (p x)) xs

one_more : (n : ℕ) → 1 + n ≡ suc n
one_more n = omega arith

insert_later : {X : Type 0} (x y : X) (ys : List X) (n : ℕ) → insert (y ∷ ys) (1 + n) x ≡ y ∷ insert ys n x
insert_later x y ys n = ap (λ k. insert (y ∷ ys) k x) (one_more n)

-- an insertion before the first of a higher number
pub insert-above : {X : Type 0} (number : X → ℕ) (x : X) (xs : List X)
    → insert xs (position_or_len (λ y. ltb (number x) (number y)) xs) x ≡ with_inserted number x xs
insert-above number x [] = refl
insert-above number x (y ∷ ys) =
    elim (ltb (number x) (number y)) as (λ b. insert (y ∷ ys)
    (cond (not b) (1 + position_or_len (λ y. ltb (number x) (number y)) ys) 0) x
    ≡ cond b (x ∷ y ∷ ys) (y ∷ with_inserted number x ys)) [
      | true ↦ refl
      | false ↦ insert_later x y ys _ ∙ ap (λ t. y ∷ t) (insert-above number x ys)
    ]

found_at : {X : Type 0} (xs : List X) (n : ℕ) (b : Bool) → ltb n (length xs) ≡ b
    → (IfNone (cond b (Some n) None) (slice_get xs n ≡ None))
    × (IfSome (cond b (Some n) None) (λ i. slice_get xs i ≡ slice_get xs n))
found_at xs n true h = (tt, refl)
found_at xs n false h = (slice_get_past xs n (ltb-false _ _ h), tt)

-- what stands at the first place that passes
pub placed : {X : Type 0} (p : X → Bool) (xs : List X) (r : Option ℕ) → r ≡ position p xs
    → (IfNone r (find p xs ≡ None)) × (IfSome r (λ i. slice_get xs i ≡ find p xs))
placed {X} p xs r h =
    let P : Option X → Option ℕ → Type 0 = λ o q. (IfNone q (o ≡ None)) × (IfSome q (λ i. slice_get xs i ≡ o)) in
    subst (P (find p xs)) (sym h) (subst (λ o. P o (position p xs)) (sym (find_at p xs))
    (found_at xs (position_or_len p xs) _ refl))

set_later : {X : Type 0} (x y : X) (ys : List X) (n : ℕ) → set (y ∷ ys) (1 + n) x ≡ y ∷ set ys n x
set_later x y ys n = ap (λ k. set (y ∷ ys) k x) (one_more n)

get_later : {X : Type 0} (y : X) (ys : List X) (n : ℕ) → slice_get (y ∷ ys) (1 + n) ≡ slice_get ys n
get_later y ys n = ap (slice_get (y ∷ ys)) (one_more n)

-- one more resource in the first object of a number
pub with_resource-set : (os : List ObjectDef) (id : ℕ) (d : ResourceDef) (o : ObjectDef)
    → slice_get os (position_or_len (λ o. eqb o.id id) os) ≡ Some o
    → set os (position_or_len (λ o. eqb o.id id) os) (with_definition o d) ≡ with_resource os id d
with_resource-set [] id d o h = cc
with_resource-set (p ∷ os) id d o h =
    let n = position_or_len (λ o. eqb o.id id) os in
    elim (eqb p.id id) as (λ b. slice_get (p ∷ os) (cond (not b) (1 + n) 0) ≡ Some o
    → set (p ∷ os) (cond (not b) (1 + n) 0) (with_definition o d)
    ≡ cond b (with_definition p d ∷ os) (p ∷ with_resource os id d)) [
      | true ↦ λ (k : Some p ≡ Some o). let e : o ≡ p = cc in ap (λ q. with_definition q d ∷ os) e
      | false ↦ λ k. set_later (with_definition o d) p os n
          ∙ ap (λ t. p ∷ t) (with_resource-set os id d o (sym (get_later p os n) ∙ k))
    ] h

-- the place in a list is the place in an equal list
pub place_in : {X : Type 0} (p : X → Bool) (xs ys : List X) (i : ℕ) → xs ≡ ys → i ≡ position_or_len p ys
    → i ≡ position_or_len p xs
place_in p xs ys i same h = h ∙ ap (position_or_len p) (sym same)

-- what stands at a place in a list stands there in an equal list
pub stands : {X : Type 0} (xs ys : List X) (i : ℕ) (x : X) → xs ≡ ys → i < length ys → x ≡ get_or xs i x
    → slice_get ys i ≡ Some x
stands xs ys i x same within h =
    ap (λ t. slice_get t i) (sym same) ∙ slice_get_read xs (length xs) i x refl (omega (arith, ap length same)) h

-- one more resource in the object at its place
pub resource_put : (xs ys : List ObjectDef) (id i : ℕ) (d : ResourceDef) (o : ObjectDef) (resources : List ResourceDef)
    → xs ≡ ys → i ≡ position_or_len (λ o. eqb o.id id) ys → slice_get ys i ≡ Some o
    → resources ≡ with_inserted (λ r. r.id) d o.resources
    → set xs i (record { id = o.id; resources = resources }) ≡ with_resource ys id d
resource_put xs ys id i d o resources same at h more =
    ap (λ t. set t i (record { id = o.id; resources = resources })) same
    ∙ ap (λ t. set ys i (record { id = o.id; resources = t })) more
    ∙ ap (λ k. set ys k (with_definition o d)) at
    ∙ with_resource-set ys id d o (ap (slice_get ys) (sym at) ∙ h)
