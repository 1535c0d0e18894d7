use Rattle.std.proofs.Common.{◌≡◌, ◌++◌, drop}
use Rattle.std.specs.FinMap as fin_map
use Rattle.instance_store.specs.Listing.{shown_pairs}
use Rattle.instance_store.specs.Nested.{flat_entries}
use Rattle.instance_store.specs.Tree.{place, path_below, stored_from}
use Rattle.instance_store.proofs.listing.push_all.Given as goal

-- what was found and the values that are left are all
abbrev pub invariant-loop-index : goal.invariant-loop-index
invariant-loop-index l =
    shown_pairs l.found.items ++ flat_entries path_below (flat_entries place (drop l.index (fin_map.entries l.objects)))
    ≡ shown_pairs l.fn.found.items ++ fin_map.entries (stored_from l.objects).values
