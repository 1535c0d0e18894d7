use Rattle.std.proofs.Common.{◌+◌, ◌++◌, drop, sym, ap, ◌∙◌, append-nil, append_assoc}
use Rattle.std.specs.FinMap as fin_map
use Rattle.instance_store.specs.Listing.{shown_pairs}
use Rattle.instance_store.specs.Nested.{block, flat_entries}
use Rattle.instance_store.specs.Tree.{place, path_below}
use Rattle.instance_store.proofs.TreeLaws.{next_of, all_done}
use Rattle.instance_store.proofs.listing.push_object.Goals as goal

pub loop-index-preserved : goal.loop-index-preserved
loop-index-preserved c =
    let es = fin_map.entries c.args.object.now in
    let n = c.args.number in
    let rest = flat_entries path_below (block place n (drop (c.loop-index.index + 1) es)) in
    let found = shown_pairs c.loop-index.found.items in
    ap (λ t. t ++ rest) c.in_ok-push_values.ensures
    ∙ append_assoc found _ rest
    ∙ ap (λ t. found ++ flat_entries path_below (block place n t)) (sym
    (next_of es c.loop-index.index _ c.entry-instance.ensures))
    ∙ c.loop-index.invariant

pub returns : goal.returns
returns c =
    let found = shown_pairs c.loop-index.found.items in
    sym (append-nil found)
    ∙ ap (λ t. found ++ flat_entries path_below (block place c.args.number t))
    (sym (all_done c.args.object.now c.loop-index.index c.len-index-end.result c.len-index-end.ensures
    c.loop-index-test.false))
    ∙ c.loop-index.invariant
