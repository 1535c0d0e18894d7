use Rattle.std.proofs.Common.{◌≡◌, ◌++◌, map, drop}
use Rattle.std.specs.FinMap as fin_map
use Rattle.instance_store.specs.Nested.{flat_entries}
use Rattle.instance_store.specs.Tree.{place, stored_from}
use Rattle.instance_store.proofs.listing.push_instances.Given as goal

-- what was found and the instances that are left are all
abbrev pub invariant-loop-index : goal.invariant-loop-index
invariant-loop-index l =
    l.found.items ++ map (λ e. e.0) (flat_entries place (drop l.index (fin_map.entries l.objects)))
    ≡ l.fn.found.items ++ fin_map.keys (stored_from l.objects).instances
