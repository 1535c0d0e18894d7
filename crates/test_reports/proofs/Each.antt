-- Lists whose elements are so of each other, one after another.
use Rattle.std.proofs.Common.{List, [], ◌∷◌, ◌++◌}
use Rattle.test_reports.specs.Told.{AreEach}

pub each_joined : {A B : Type 0} (is : A → B → Type 0) (xs vs : List A) (ys ws : List B) → AreEach is xs ys
    → AreEach is vs ws → AreEach is (xs ++ vs) (ys ++ ws)
each_joined is [] vs [] ws first more = more
each_joined is (x ∷ xs) vs (y ∷ ys) ws first more = (first.0, each_joined is xs vs ys ws first.1 more)
each_joined is [] vs (y ∷ ys) ws first more = absurd first
each_joined is (x ∷ xs) vs [] ws first more = absurd first

-- one more of each
pub each_more : {A B : Type 0} (is : A → B → Type 0) (xs : List A) (ys : List B) (x : A) (y : B) → AreEach is xs ys
    → is x y → AreEach is (xs ++ x ∷ []) (ys ++ y ∷ [])
each_more is xs ys x y first next = each_joined is xs (x ∷ []) ys (y ∷ []) first (next, tt)
