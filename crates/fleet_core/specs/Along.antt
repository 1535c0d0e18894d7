-- A relation between each element of a list and those before it.
use Rattle.std.specs.Prelude.{List, [], ◌∷◌, ◌++◌}

-- each of these elements, in turn, stands in the relation to the list of those before it, of which the first ones are
-- given
abbrev pub Along : {X : Type 0} → (List X → X → Type 0) → List X → List X → Type 0
Along P before [] = Unit {0}
Along P before (x ∷ xs) = P before x × Along P (before ++ x ∷ []) xs
