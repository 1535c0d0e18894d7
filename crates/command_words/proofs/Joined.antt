-- Words that are joined by spaces.
use Rattle.std.proofs.Common.{ℕ, ◌≡◌, List, [], ◌∷◌, ◌++◌, map, refl, ap, append-nil}
use Rattle.std.specs.List.{flat_map, join_by, join_with_byte}

after_first : {X : Type 0} (f : X → List ℕ) (x : X) (xs : List X)
    → f x ++ flat_map (λ y. 32 ∷ f y) xs ≡ join_with_byte 32 (f x ∷ map f xs)
after_first f x [] = append-nil (f x)
after_first f x (y ∷ ys) = ap (λ t. f x ++ 32 ∷ t) (after_first f y ys)

pub joined : {X : Type 0} (f : X → List ℕ) (xs : List X) → join_by f (32 ∷ []) xs ≡ join_with_byte 32 (map f xs)
joined f [] = refl
joined f (x ∷ xs) = after_first f x xs
