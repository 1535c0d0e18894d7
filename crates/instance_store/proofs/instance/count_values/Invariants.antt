use Rattle.std.proofs.Common.{◌≡◌, ◌+◌, length, drop}
use Rattle.std.specs.FinMap as fin_map
use Rattle.instance_store.specs.Nested.{flat_entries}
use Rattle.instance_store.specs.Tree.{at_part, instance_values}
use Rattle.instance_store.proofs.instance.count_values.Given as goal

-- what was counted and the values that are left are all
abbrev pub invariant-loop-index : goal.invariant-loop-index
invariant-loop-index l =
    l.count + length (flat_entries at_part (drop l.index (fin_map.entries l.resources)))
    ≡ fin_map.len (instance_values l.resources)
