-- Lists, read and changed at a place.
use Rattle.std.proofs.Common.{◌≡◌, ℕ, zero, suc, List, [], ◌∷◌, map, set}
use Rattle.std.proofs.Common.{None, Some, slice_get, refl, ap}
use Rattle.std.specs.List.{AllByRecursion}

pub map-set : {X Y : Type 0} (f : X → Y) (xs : List X) (i : ℕ) (y : X) → map f (set xs i y) ≡ set (map f xs) i (f y)
map-set f [] i y = refl
map-set f (z ∷ zs) zero y = refl
map-set f (z ∷ zs) (suc i) y = ap (λ l. f z ∷ l) (map-set f zs i y)

pub from_map : {X Y : Type 0} (f : X → Y) (xs : List X) (i : ℕ) (y : Y) → slice_get (map f xs) i ≡ Some y → (x : X)
    × (slice_get xs i ≡ Some x) × (f x ≡ y)
from_map f [] i y h = let e : None ≡ Some y = h in absurd cc
from_map f (z ∷ zs) zero y h = let e : Some (f z) ≡ Some y = h in (z, refl, cc)
from_map f (z ∷ zs) (suc i) y h = from_map f zs i y h

pub all_weaker : {X : Type 0} (P Q : X → Type 0) (xs : List X) → ((x : X) → P x → Q x) → AllByRecursion P xs
    → AllByRecursion Q xs
all_weaker P Q [] f h = tt
all_weaker P Q (x ∷ xs) f h = (f x h.0, all_weaker P Q xs f h.1)
