use Rattle.std.proofs.Common.{◌≡◌, ◌+◌, length, drop, ap, arith}
use Rattle.std.specs.FinMap as fin_map
use Rattle.instance_store.specs.Nested.{flat_entries}
use Rattle.instance_store.specs.Tree.{at_part}
use Rattle.instance_store.proofs.TreeLaws.{len-instance, length_next, all_done}
use Rattle.instance_store.proofs.instance.count_values.Goals as goal

pub loop-index-init : goal.loop-index-init
loop-index-init c = omega (arith, len-instance c.args.resources.now)

-- the values of this resource, and those of the later ones
next : (c : goal.After-entry)
    → length (flat_entries at_part (drop c.loop-index.index (fin_map.entries c.args.resources.now)))
    ≡ fin_map.len c.entry.result.1.now
    + length (flat_entries at_part (drop (c.loop-index.index + 1) (fin_map.entries c.args.resources.now)))
next c = length_next (fin_map.entries c.args.resources.now) c.loop-index.index _ c.entry.ensures

pub len-count-requires : goal.len-count-requires
len-count-requires c = omega (arith, next c, c.loop-index.invariant, c.requires)

pub overflow_add-count : goal.overflow_add-count
overflow_add-count c =
    let n = length_next (fin_map.entries c.args.resources.now) c.loop-index.index _ c.entry.ensures in
    omega (arith, n, c.loop-index.invariant, c.requires, c.len-count.ensures)

pub loop-index-preserved : goal.loop-index-preserved
loop-index-preserved c =
    let n = length_next (fin_map.entries c.args.resources.now) c.loop-index.index _ c.entry.ensures in
    omega (arith, n, c.loop-index.invariant, c.len-count.ensures)

pub returns : goal.returns
returns c =
    let done = ap (λ es. length (flat_entries at_part es)) (all_done c.args.resources.now c.loop-index.index
    c.len-index-end.result
    c.len-index-end.ensures c.loop-index-test.false) in
    omega (arith, done, c.loop-index.invariant)
