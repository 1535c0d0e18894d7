-- The order of a catalog: ascending numbers.
use Rattle.std.specs.Prelude.{ℕ, nat_lt, Bool, true, ◌&&◌, List, [], ◌∷◌, map, All}
use Rattle.std.specs.List.{list_all}
use Rattle.std.specs.List.Sorted.{IsStrictlyIncreasing}
use Rattle.object_defs.specs.declared.definition.ObjectDef.{ObjectDef}

-- the number is below the first of a list
abbrev pub is_below : ℕ → List ℕ → Bool
is_below n [] = true
is_below n (m ∷ ms) = nat_lt n m

-- each number is below the next
abbrev pub ascends : List ℕ → Bool
ascends [] = true
ascends (n ∷ ns) = is_below n ns && ascends ns

-- the objects stand by ascending number, and the resources of each
abbrev pub is_in_order : List ObjectDef → Bool
is_in_order catalog =
    ascends (map (λ o. o.id) catalog) && list_all (λ o. ascends (map (λ r. r.id) o.resources)) catalog

-- the same in std's words
pub record IsInOrder (catalog : List ObjectDef) : Type 0 where
  pub objects : IsStrictlyIncreasing (map (λ o. o.id) catalog)
  pub resources : All (λ o. IsStrictlyIncreasing (map (λ r. r.id) o.resources)) catalog
