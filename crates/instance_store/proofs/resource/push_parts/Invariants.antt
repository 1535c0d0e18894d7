use Rattle.std.proofs.Common.{◌≡◌, ◌++◌, map, drop}
use Rattle.std.specs.FinMap as fin_map
use Rattle.instance_store.specs.Listing.{shown_pairs}
use Rattle.instance_store.specs.Tree.{part_entries, path_in}
use Rattle.instance_store.proofs.resource.push_parts.Given as goal

-- what was found and the parts that are left are all
abbrev pub invariant-loop-index : goal.invariant-loop-index
invariant-loop-index l =
    shown_pairs l.found.items
    ++ map (λ e. (path_in l.path e.0, e.1)) (part_entries (drop l.index (fin_map.entries l.parts)))
    ≡ shown_pairs l.fn.found.items
    ++ map (λ e. (path_in l.path e.0, e.1)) (part_entries (fin_map.entries l.parts))
