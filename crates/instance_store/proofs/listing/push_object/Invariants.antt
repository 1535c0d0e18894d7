use Rattle.std.proofs.Common.{◌≡◌, ◌++◌, drop}
use Rattle.std.specs.FinMap as fin_map
use Rattle.instance_store.specs.Listing.{shown_pairs}
use Rattle.instance_store.specs.Nested.{block, flat_entries}
use Rattle.instance_store.specs.Tree.{place, path_below}
use Rattle.instance_store.proofs.listing.push_object.Given as goal

-- what was found and the values that are left are all
abbrev pub invariant-loop-index : goal.invariant-loop-index
invariant-loop-index l =
    shown_pairs l.found.items ++ flat_entries path_below
    (block place l.number (drop l.index (fin_map.entries l.object)))
    ≡ shown_pairs l.fn.found.items ++ flat_entries path_below (block place l.number (fin_map.entries l.object))
