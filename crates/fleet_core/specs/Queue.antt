-- How devices that come one before the other are kept, as clauses of private functions name it. No promise rests on it.
use Rattle.std.specs.Prelude.{ℕ, List, map}
use Rattle.std.specs.Ordering.{nat_cmp, ordering_then}
use Rattle.std.specs.declared.cmp.Ordering.{Ordering}
use Rattle.std.specs.declared.cmp.Reverse.{Reverse}

-- the lowest is the greatest of a heap in this order
abbrev pub lowest_first : Reverse ℕ → Reverse ℕ → Ordering
lowest_first x y = nat_cmp y.0 x.0

abbrev pub numbers_of : List (Reverse ℕ) → List ℕ
numbers_of xs = map (λ (x : Reverse ℕ). x.0) xs

-- so is the one with the fewest posts
abbrev pub fewest_first : Reverse (ℕ × ℕ) → Reverse (ℕ × ℕ) → Ordering
fewest_first x y = ordering_then (nat_cmp y.0.0 x.0.0) (nat_cmp y.0.1 x.0.1)

abbrev pub pairs_of : List (Reverse (ℕ × ℕ)) → List (ℕ × ℕ)
pairs_of xs = map (λ (x : Reverse (ℕ × ℕ)). x.0) xs
