-- How many records there are, and one that stands alone.
use Rattle.std.proofs.Common.{◌≡◌, List, [], ◌∷◌, length, None, refl, arith}
use Rattle.object_defs.specs.declared.definition.ResourceDef.{ResourceDef}
use Rattle.lwm2m_values.specs.declared.node.Node.{Node}
use Rattle.lwm2m_values.specs.Tree.{trees_of}
use Rattle.lwm2m_payloads.specs.Building.{sole}
use Rattle.lwm2m_payloads.specs.Given.{count_of, parts_given, some_parts}
use Rattle.lwm2m_payloads.specs.Results.{result_map}
use Rattle.lwm2m_payloads.specs.declared.given.Given.TheVariants.{Parts}

pub not_sole : (nodes : List Node) → (length nodes ≡ 1 → ⊥) → None ≡ sole (trees_of nodes)
not_sole [] h = refl
not_sole (n ∷ []) h = absurd (h refl)
not_sole (n ∷ m ∷ nodes) h = refl

pub counted : (nodes : List Node) → length nodes ≡ count_of (trees_of nodes)
counted [] = refl
counted (n ∷ nodes) = let rest = counted nodes in omega arith

-- the parts of a Multiple Resource that has some
pub some : (d : ResourceDef) (nodes : List Node) → (length nodes ≡ 0 → ⊥)
    → result_map Parts (parts_given d.kind (trees_of nodes)) ≡ some_parts d (trees_of nodes)
some d [] h = absurd (h refl)
some d (n ∷ nodes) h = refl
