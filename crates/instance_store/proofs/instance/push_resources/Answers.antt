use Rattle.std.proofs.Common.{◌++◌, ◌+◌, map, drop, sym, ap, ◌∙◌, append-nil, append_assoc}
use Rattle.std.specs.FinMap as fin_map
use Rattle.instance_store.specs.Listing.{shown_pairs}
use Rattle.instance_store.specs.Nested.{block, flat_entries}
use Rattle.instance_store.specs.Tree.{at_part, path_below, path_in}
use Rattle.instance_store.proofs.Nested.{entries-joined_map}
use Rattle.instance_store.proofs.TreeLaws.{part_nesting, paths_next, all_done}
use Rattle.instance_store.proofs.instance.push_resources.Goals as goal

pub loop-index-init : goal.loop-index-init
loop-index-init c =
    ap (λ es. shown_pairs c.args.found.now.items ++ block path_below c.args.place es)
    (sym (entries-joined_map part_nesting c.args.resources.now))

pub loop-index-preserved : goal.loop-index-preserved
loop-index-preserved c =
    let es = fin_map.entries c.args.resources.now in
    let rest = block path_below c.args.place (flat_entries at_part (drop (c.loop-index.index + 1) es)) in
    let found = shown_pairs c.loop-index.found.items in
    ap (λ t. t ++ rest) c.in_ok-push_values.ensures
    ∙ append_assoc found _ rest
    ∙ ap (λ p. found ++ (map (λ e. (path_in p e.0, e.1)) (fin_map.entries c.entry-resource.result.1.now) ++ rest))
    c.resource_path.ensures
    ∙ ap (λ t. found ++ t) (sym (paths_next c.args.place es c.loop-index.index _ c.entry-resource.ensures))
    ∙ c.loop-index.invariant

pub returns : goal.returns
returns c =
    let found = shown_pairs c.loop-index.found.items in
    sym (append-nil found)
    ∙ ap (λ t. found ++ block path_below c.args.place (flat_entries at_part t))
    (sym (all_done c.args.resources.now c.loop-index.index c.len-index-end.result c.len-index-end.ensures
    c.loop-index-test.false))
    ∙ c.loop-index.invariant
