-- Which attribute has effect: that of the lowest level that has one (OMA LwM2M 1.1 Core, attributes).
use Rattle.std.specs.Prelude.{◌≡◌, ◌↔◌, ℕ, ◌<◌, ◌≤◌, ℤ, List, [], ◌∷◌, ◌++◌, length, None, Some}
use Rattle.object_defs.specs.declared.path.Path.{Path}
use Rattle.object_defs.specs.declared.path.Path.TheVariants.{Object, Instance, Resource, Part}
use Rattle.notifier.specs.Attributes.{Numbers, assigned_number, effective}
use Rattle.notifier.specs.declared.attribute.Name.{Name}

-- the numbers of a path
abbrev pub numbers_of : Path → List ℕ
numbers_of (Object o) = o ∷ []
numbers_of (Instance o i) = o ∷ i ∷ []
numbers_of (Resource o i r) = o ∷ i ∷ r ∷ []
numbers_of (Part o i r p) = o ∷ i ∷ r ∷ p ∷ []

-- the attributes at a level have effect on a path where the path begins with the level's numbers, and the level is an
-- object, an object instance or a resource: a resource instance has no attributes of its own
pub record HasEffectOn (path level : Path) : Type 0 where
  pub rest : List ℕ
  pub begins : numbers_of path ≡ numbers_of level ++ rest
  pub at_most_three : length (numbers_of level) ≤ 3

-- a level lies lower than another one where it has more numbers
abbrev pub LiesLower : Path → Path → Type 0
LiesLower lower level = length (numbers_of level) < length (numbers_of lower)

-- this level has this number of the attribute, by this server, and no lower one has any
pub record IsLowest (m : Numbers) (server : ℕ) (path : Path) (n : Name) (level : Path) (z : ℤ) : Type 0 where
  pub effect : HasEffectOn path level
  pub set : assigned_number m server level n ≡ Some z
  pub lowest : (lower : Path) → HasEffectOn path lower → LiesLower lower level → assigned_number m server lower n ≡ None

abbrev pub LowestHasEffect : Type 0
LowestHasEffect =
    (m : Numbers) (server : ℕ) (path : Path) (n : Name) (z : ℤ)
    → (effective m server path n ≡ Some z) ↔ ((level : Path) × IsLowest m server path n level z)

abbrev pub NoneHasEffect : Type 0
NoneHasEffect =
    (m : Numbers) (server : ℕ) (path : Path) (n : Name)
    → (effective m server path n ≡ None)
    ↔ ((level : Path) → HasEffectOn path level → assigned_number m server level n ≡ None)
