-- TLV nodes as trees of identifiers and bytes, without where they lie in memory.
use Rattle.std.specs.Prelude.{ℕ, List, [], ◌∷◌, map}
use Rattle.lwm2m_values.specs.declared.node.Node.{Node}
use Rattle.lwm2m_values.specs.declared.node.Node.TheOpen.{Node-F}
use Rattle.lwm2m_values.specs.declared.node.Node.TheFolds.{fold-Node}

mutual
  -- a record: an Object Instance, a Multiple Resource, a Resource Instance or a Resource
  pub data Tree : Type 0 where
    instance : ℕ → Trees → Tree
    multi : ℕ → Trees → Tree
    part : ℕ → List ℕ → Tree
    single : ℕ → List ℕ → Tree

  -- records in their order
  pub data Trees : Type 0 where
    none : Trees
    more : Tree → Trees → Trees

abbrev pub trees_of_list : List Tree → Trees
trees_of_list [] = none
trees_of_list (t ∷ ts) = more t (trees_of_list ts)

-- one node, with the tree of each inner node in its place
abbrev pub tree_step : Node-F Tree → Tree
tree_step (Node-F.Instance id children) = instance id (trees_of_list children.items)
tree_step (Node-F.Multi id parts) = multi id (trees_of_list parts.items)
tree_step (Node-F.Part id bytes) = part id bytes
tree_step (Node-F.Single id bytes) = single id bytes

-- the tree of a node
abbrev pub tree_of : Node → Tree
tree_of = fold-Node Tree tree_step

-- the trees of nodes
abbrev pub trees_of : List Node → Trees
trees_of nodes = trees_of_list (map tree_of nodes)
