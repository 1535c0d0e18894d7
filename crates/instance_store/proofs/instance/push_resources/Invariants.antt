use Rattle.std.proofs.Common.{◌≡◌, ◌++◌, drop}
use Rattle.std.specs.FinMap as fin_map
use Rattle.instance_store.specs.Listing.{shown_pairs}
use Rattle.instance_store.specs.Nested.{block, flat_entries}
use Rattle.instance_store.specs.Tree.{at_part, path_below, instance_values}
use Rattle.instance_store.proofs.instance.push_resources.Given as goal

-- what was found and the values that are left are all
abbrev pub invariant-loop-index : goal.invariant-loop-index
invariant-loop-index l =
    shown_pairs l.found.items ++ block path_below l.place
    (flat_entries at_part (drop l.index (fin_map.entries l.resources)))
    ≡ shown_pairs l.fn.found.items ++ block path_below l.place (fin_map.entries (instance_values l.resources))
