-- The order of the links that a Discover shows.
use Rattle.std.specs.Prelude.{◌≡◌, ◌≢◌, ◌<◌, ◌⊎◌, ℕ, List, [], ◌∷◌}
use Rattle.std.specs.List.{AllPairs}
use Rattle.object_defs.specs.declared.definition.ObjectDef.{ObjectDef}
use Rattle.object_defs.specs.declared.path.Path.{Path}
use Rattle.object_defs.specs.declared.path.Path.TheVariants.{Object, Instance, Resource, Part}
use Rattle.object_defs.specs.Order.{IsInOrder}
use Rattle.instance_store.specs.Stored.{Stored}
use Rattle.device_requests.specs.Discover.{linked_paths}

-- the numbers of a path
abbrev pub path_numbers : Path → List ℕ
path_numbers (Object o) = o ∷ []
path_numbers (Instance o i) = o ∷ i ∷ []
path_numbers (Resource o i r) = o ∷ i ∷ r ∷ []
path_numbers (Part o i r p) = o ∷ i ∷ r ∷ p ∷ []

-- the first number in which they differ is lower, or the others begin with these and go on
abbrev pub AreBefore : List ℕ → List ℕ → Type 0
AreBefore [] [] = ⊥
AreBefore [] (n ∷ ns) = Unit {0}
AreBefore (m ∷ ms) [] = ⊥
AreBefore (m ∷ ms) (n ∷ ns) = (m < n) ⊎ ((m ≡ n) × AreBefore ms ns)

-- a path comes before those below it, and those come before what has a higher number
abbrev pub ComesBefore : Path → Path → Type 0
ComesBefore p q = AreBefore (path_numbers p) (path_numbers q)

-- of a catalog that is in order, as every one is, each path that a Discover shows comes before all later ones
abbrev pub LinksAscend : Type 0
LinksAscend =
    (catalog : List ObjectDef) (stored : Stored) (path : Path) → IsInOrder catalog
    → AllPairs ComesBefore (linked_paths catalog stored path)

-- so none is shown twice
abbrev pub LinksDiffer : Type 0
LinksDiffer =
    (catalog : List ObjectDef) (stored : Stored) (path : Path) → IsInOrder catalog
    → AllPairs (λ p q. p ≢ q) (linked_paths catalog stored path)
