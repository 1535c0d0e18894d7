-- What stands at a place of a list, before it and after it.
use Rattle.std.proofs.Common.{◌≡◌, ℕ, zero, suc, ◌+◌, List, [], ◌∷◌, ◌++◌, length, take, drop, slice_get}
use Rattle.std.proofs.Common.{slice_set, remove, Some, refl, sym, ap, ◌∙◌, arith}
use Rattle.lemmas.proofs.Lists.{drop_opens}

-- ---- places of a list

next_is : (i : ℕ) → suc i ≡ i + 1
next_is i = omega arith

pub opened : {X : Type 0} (xs : List X) (i : ℕ) (x : X) → slice_get xs i ≡ Some x → drop i xs ≡ x ∷ drop (i + 1) xs
opened xs i x h = drop_opens xs i x h ∙ ap (λ n. x ∷ drop n xs) (next_is i)

takes_set : {X : Type 0} (xs : List X) (i : ℕ) (x y : X) → slice_get xs i ≡ Some x
    → take (suc i) (slice_set xs i y) ≡ take i xs ++ y ∷ []
takes_set [] i x y h = let f : ⊥ = cc in absurd f
takes_set (z ∷ zs) zero x y h = refl
takes_set (z ∷ zs) (suc i) x y h = ap (λ t. z ∷ t) (takes_set zs i x y h)

pub taken_set : {X : Type 0} (xs : List X) (i : ℕ) (x y : X) → slice_get xs i ≡ Some x
    → take (i + 1) (slice_set xs i y) ≡ take i xs ++ y ∷ []
taken_set xs i x y h = ap (λ n. take n (slice_set xs i y)) (sym (next_is i)) ∙ takes_set xs i x y h

drops_set : {X : Type 0} (xs : List X) (i : ℕ) (y : X) → drop (suc i) (slice_set xs i y) ≡ drop (suc i) xs
drops_set [] i y = refl
drops_set (z ∷ zs) zero y = refl
drops_set (z ∷ zs) (suc i) y = drops_set zs i y

pub dropped_set : {X : Type 0} (xs : List X) (i : ℕ) (y : X) → drop (i + 1) (slice_set xs i y) ≡ drop (i + 1) xs
dropped_set xs i y =
    ap (λ n. drop n (slice_set xs i y)) (sym (next_is i)) ∙ drops_set xs i y ∙ ap (λ n. drop n xs) (next_is i)

pub taken_removed : {X : Type 0} (xs : List X) (i : ℕ) → take i (remove xs i) ≡ take i xs ++ []
taken_removed [] zero = refl
taken_removed [] (suc i) = refl
taken_removed (z ∷ zs) zero = refl
taken_removed (z ∷ zs) (suc i) = ap (λ t. z ∷ t) (taken_removed zs i)

drops_removed : {X : Type 0} (xs : List X) (i : ℕ) → drop i (remove xs i) ≡ drop (suc i) xs
drops_removed [] zero = refl
drops_removed [] (suc i) = refl
drops_removed (z ∷ zs) zero = refl
drops_removed (z ∷ zs) (suc i) = drops_removed zs i

pub dropped_removed : {X : Type 0} (xs : List X) (i : ℕ) → drop i (remove xs i) ≡ drop (i + 1) xs
dropped_removed xs i = drops_removed xs i ∙ ap (λ n. drop n xs) (next_is i)

takes_before : {X : Type 0} (xs : List X) (i : ℕ) (y : X) → take i (slice_set xs i y) ≡ take i xs
takes_before [] zero y = refl
takes_before [] (suc i) y = refl
takes_before (x ∷ xs) zero y = refl
takes_before (x ∷ xs) (suc i) y = ap (λ t. x ∷ t) (takes_before xs i y)

got_set : {X : Type 0} (xs : List X) (i : ℕ) (x y : X) → slice_get xs i ≡ Some x
    → slice_get (slice_set xs i y) i ≡ Some y
got_set [] i x y h = let f : ⊥ = cc in absurd f
got_set (z ∷ zs) zero x y h = refl
got_set (z ∷ zs) (suc i) x y h = got_set zs i x y h

-- set twice, it is as set the second time
pub taken_twice : {X : Type 0} (xs : List X) (i : ℕ) (x y z : X) → slice_get xs i ≡ Some x
    → take (i + 1) (slice_set (slice_set xs i y) i z) ≡ take i xs ++ z ∷ []
taken_twice xs i x y z h =
    taken_set (slice_set xs i y) i y z (got_set xs i x y h) ∙ ap (λ t. t ++ z ∷ []) (takes_before xs i y)

pub dropped_twice : {X : Type 0} (xs : List X) (i : ℕ) (y z : X)
    → drop (i + 1) (slice_set (slice_set xs i y) i z) ≡ drop (i + 1) xs
dropped_twice xs i y z = dropped_set (slice_set xs i y) i z ∙ dropped_set xs i y

pub length-placed : {X : Type 0} (xs : List X) (i : ℕ) (y : X) → length (slice_set xs i y) ≡ length xs
length-placed [] i y = refl
length-placed (x ∷ xs) zero y = refl
length-placed (x ∷ xs) (suc i) y = ap suc (length-placed xs i y)
