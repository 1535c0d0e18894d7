use Rattle.std.proofs.Common.{◌+◌, ◌++◌, [], ◌∷◌, drop, sym, ap, ◌∙◌, append-nil, append_assoc}
use Rattle.std.specs.FinMap as fin_map
use Rattle.instance_store.specs.Listing.{shown_pairs}
use Rattle.instance_store.specs.Tree.{part_entries}
use Rattle.instance_store.proofs.TreeLaws.{in_resource, parts_next, all_done, shown_push}
use Rattle.instance_store.proofs.resource.push_parts.Goals as goal

pub loop-index-preserved : goal.loop-index-preserved
loop-index-preserved c =
    let es = fin_map.entries c.args.parts.now in
    let rest = in_resource c.args.path (part_entries (drop (c.loop-index.index + 1) es)) in
    let found = c.loop-index.found.items in
    ap (λ ps. shown_pairs ps ++ rest) c.in_ok-push.ensures.items
    ∙ ap (λ t. t ++ rest) (shown_push found _)
    ∙ append_assoc (shown_pairs found) (_ ∷ []) rest
    ∙ ap (λ q. shown_pairs found ++ (q, c.entry-number.result.1.now) ∷ rest) c.part.ensures
    ∙ ap (λ t. shown_pairs found ++ t) (sym (parts_next c.args.path es c.loop-index.index _ c.entry-number.ensures))
    ∙ c.loop-index.invariant

pub returns : goal.returns
returns c =
    let found = shown_pairs c.loop-index.found.items in
    sym (append-nil found)
    ∙ ap (λ t. found ++ in_resource c.args.path (part_entries t))
    (sym (all_done c.args.parts.now c.loop-index.index c.len-index-end.result c.len-index-end.ensures
    c.loop-index-test.false))
    ∙ c.loop-index.invariant
